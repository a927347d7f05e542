-- Every starred sample comes out as it is written: the definitions compute.
-- Assumes nothing.
use mathlib.Core.Path.{refl}
use Rattle.kinds.specs.Codes.{type_code}
use Rattle.table.specs.Buffers.{over, padded}
use Rattle.table.specs.Rows.{rows_from, refs_of, names_of}
use Rattle.ranks.specs.Walk.{stretch, entry, upward, resolve}
use Rattle.rules.specs.Counts.{counted}
use Rattle.rules.specs.Places.{place_at}
use Rattle.rules.specs.Lawful.{first_bad, rule_at}
use Rattle.utf8.specs.Utf8.{pays}
use Rattle.stream.specs.Stream.{stream, stream_in, framed}
use Rattle.stream.specs.Count.{num_entries}
use Rattle.shapes.specs.Shapes.{whole_shape}
use Rattle.records.specs.Table.{fits}
use Rattle.records.specs.Records.{after, run}
use Rattle.records.specs.Read.{reading}
use Rattle.ferry.specs.Reader.{whole_of}
use Rattle.ferry.specs.Samples.{Right, samples}

pub samples-right : Right samples
unfolding type_code over padded rows_from refs_of names_of stretch entry upward resolve counted place_at first_bad rule_at pays stream stream_in framed
    num_entries whole_shape fits after run reading whole_of
samples-right = (refl, (refl, (refl, (refl, (refl, (refl, (refl, (refl, (refl, (refl, (refl, tt)))))))))))
