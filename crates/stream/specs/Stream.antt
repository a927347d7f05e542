-- Document 01, "Type stream and table": "each record is its code, its field count, its fields".
--     Stream             records, to the end of the words or to where they end inside a record
--     stream ws          the words ws as records
--     record_at ws at     what stands at the place at: nothing, a record, or one that is cut
--     Finds ws place at found     what is found at the place at is that, its fields a part of the words ws, which stand at `place`
--     records_of ws      the records of the words ws in order, and behind them one that is cut, if they end inside it
--     framed at s        whether s, whose first word is the word at, is whole, else the head of the record that is cut
-- Assumes nothing.
use Rattle.std.specs.Prelude.{◌≡◌, cond, List, [], ◌∷◌, ℕ, zero, suc, ◌+◌, ◌*◌, leb, length, take, drop, Option, Some, None, Result, Ok, Err, option_map}
use Rattle.stream.specs.declared.Record.{Record}
use Rattle.stream.specs.declared.Records.{Records}
use Rattle.stream.specs.declared.Cut.{Cut}

pub data Stream : Type 0 where
  done : Stream
  cut : Stream
  rec : (code : ℕ) (fields : List ℕ) (rest : Stream) → Stream

-- the first record, then what is read of the words behind it
abbrev pub first : (List ℕ → Stream) → List ℕ → Stream
first read [] = done
first read (code ∷ []) = cut
first read (code ∷ count ∷ ws) = cond (leb count (length ws)) (rec code (take count ws) (read (drop count ws))) cut

-- at most f records: f only makes it end
unfoldable pub stream_in : ℕ → List ℕ → Stream
stream_in zero ws = cut
stream_in (suc f) ws = first (stream_in f) ws

unfoldable pub stream : List ℕ → Stream
stream ws = stream_in (suc (length ws)) ws

-- a record as it is read: its code and its fields
pub record Read : Type 0 where
  pub code : ℕ
  pub fields : List ℕ

abbrev pub whole : ℕ → List ℕ → Result Read Cut
whole code fields = Ok (record { code = code; fields = fields })

-- "1 | stream ends inside a record | word index of its head, 0"
abbrev pub cut_at : ℕ → Result Read Cut
cut_at head = Err (record { head = head })

abbrev pub found_in : ℕ → List ℕ → Option (Result Read Cut)
found_in at [] = None
found_in at (code ∷ []) = Some (cut_at at)
found_in at (code ∷ count ∷ ws) = Some (cond (leb count (length ws)) (whole code (take count ws)) (cut_at at))

unfoldable pub record_at : List ℕ → ℕ → Option (Result Read Cut)
record_at ws at = found_in at (drop at ws)

-- the records of s, whose first word is the word at
unfoldable pub records_in : ℕ → Stream → List (Result Read Cut)
records_in at done = []
records_in at cut = cut_at at ∷ []
records_in at (rec code fields s) = whole code fields ∷ records_in (at + 2 + length fields) s

abbrev pub records_of : List ℕ → List (Result Read Cut)
records_of ws = records_in 0 (stream ws)

-- what the code hands out of a record, and the records that it has left
abbrev pub read_of : Result Record Cut → Result Read Cut
read_of (Ok r) = whole r.code r.fields.now
read_of (Err ends) = Err ends

-- where the fields lie that are handed out: in the words, which stand at `place`, behind the code and the count of their record, of 8
-- bytes each; those of an empty record too, so that the words and the place leave one answer
abbrev pub LiesAt : ℕ × ℕ → ℕ → Option (Result Record Cut) → Type 0
LiesAt place at None = Unit {0}
LiesAt place at (Some (Err ends)) = Unit {0}
LiesAt place at (Some (Ok r)) = r.fields.ref_ptr ≡ (place.0, (at + 2) * 8 + place.1)

pub record Finds (words : List ℕ) (place : ℕ × ℕ) (at : ℕ) (found : Option (Result Record Cut)) : Type 0 where
  pub says : option_map read_of found ≡ record_at words at
  pub lies : LiesAt place at found

abbrev pub left : Records → List (Result Read Cut)
left r = records_in r.at (stream (drop r.at r.words.now))

-- "1 | stream ends inside a record | word index of its head, 0"
unfoldable pub framed : ℕ → Stream → Result (Unit {0}) Cut
framed at done = Ok tt
framed at cut = Err (record { head = at })
framed at (rec code fields s) = framed (at + 2 + length fields) s
