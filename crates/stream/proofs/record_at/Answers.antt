-- `stream::record_at` meets its contract, by a law for each way out; the fields lie where the code takes them from. Assumes nothing.
use mathlib.Core.Path.{sym, refl, ap, ◌∙◌}
use native.Mathlib.Omega.{arith}
use lib.ListN.{length, length-drop}
use Rattle.laws.proofs.Rests.{rest_part}
use Rattle.stream.proofs.Laws.Stream.{record_at-past, record_at-lone, record_at-cut, record_at-whole, fields-behind}
use Rattle.stream.proofs.record_at.Goals as goal

pub returns-then-words-at : goal.returns-then-words-at
returns-then-words-at c = record { says = sym (record_at-past c.args.words.now c.args.at c.if-words-at.true); lies = tt }

pub returns-in_default : goal.returns-in_default
returns-in_default c =
    let long = ap length (rest_part c.args.words.now c.args.at) ∙ length-drop c.args.at c.args.words.now in
    record { says = sym (record_at-lone c.args.words.now c.args.at _ refl (omega arith) c.in_default.len_below); lies = tt }

pub returns-then-rest-count : goal.returns-then-rest-count
returns-then-rest-count c =
    record { says = sym (record_at-cut c.args.words.now c.args.at _ refl c.in-len2-up.len_at_least c.if-rest-count.true); lies = tt }

pub returns : goal.returns
returns c =
    record {
      says = sym (record_at-whole c.args.words.now c.args.at _ refl c.in-len2-up.len_at_least c.if-rest-count.false _ (fields-behind c.args.words.now c.args.at _ refl _));
      lies = refl;
    }
