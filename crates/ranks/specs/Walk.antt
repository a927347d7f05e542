-- Document 01, "Resolution": the walk over a table, in its order.
--     Answer              a rank; a ring; or a refusal's number, the entry and the detail
--     Out                 the answer, and the mark of each entry: 0 not started, 1 begun, its rank and 2 finished
--     from e p            the part of the path p from e on
--     on_rank, and_then     go on after a rank;  by_mark  by the mark of an entry
--     judged, finish      the end of an entry: its own rule, and its rank stored
--     entry f t p ms e    resolves e, below the path p of entries begun; f bounds the entries not started, so that it ends
--     stretch t g e ms best rs   resolves the references rs of e, each by g, above the rank best of those before
--     upward f t ms i n   resolves the n entries from i on;  resolve t  the whole pass
--     is_new, unstarted    how many entries are not started
--     rank_in, ranks_of     the ranks that the marks say
-- Assumes nothing.
use Rattle.std.specs.Prelude.{cond, List, [], ◌∷◌, ◌++◌, map, ℕ, zero, suc, ◌+◌, ◌-◌, max, ltb, eqb, get_or, set, replicate}
use Rattle.ranks.specs.Table.{Verdict, kept, broken, Table, out_of_range}

pub data Answer : Type 0 where
  Rank : ℕ → Answer
  Ring : List ℕ → Answer
  Bad : ℕ → ℕ → ℕ → Answer

pub record Out : Type 0 where
  pub marks : List ℕ
  pub answer : Answer

abbrev pub out : List ℕ → Answer → Out
out ms a = record { marks = ms; answer = a }

-- "the ring starts with the entry met again and follows the path"
abbrev pub from : ℕ → List ℕ → List ℕ
from e [] = []
from e (x ∷ xs) = cond (eqb x e) (x ∷ xs) (from e xs)

abbrev pub on_rank : Answer → Out → (ℕ → Out) → Out
on_rank (Rank k) o next = next k
on_rank (Ring xs) o next = o
on_rank (Bad n e r) o next = o

abbrev pub and_then : Out → (List ℕ → ℕ → Out) → Out
and_then o next = on_rank o.answer o (next o.marks)

abbrev pub by_mark : ℕ → Out → Out → (ℕ → Out) → Out
by_mark zero start ring done = start
by_mark (suc zero) start ring done = ring
by_mark (suc (suc k)) start ring done = done k

-- "then its own rule is judged"
abbrev pub judged : Verdict → ℕ → List ℕ → ℕ → Out
judged kept e l k = out (set l e (k + 2)) (Rank k)
judged (broken n r) e l k = out l (Bad n e r)

abbrev pub finish : Table → ℕ → List ℕ → ℕ → Out
finish t e l k = judged (t.rule e) e l k

-- "an entry's references are resolved in order, each fully": its range, then its own walk
unfoldable pub stretch : Table → (List ℕ → ℕ → Out) → ℕ → List ℕ → ℕ → List ℕ → Out
stretch t g e ms best [] = out ms (Rank best)
stretch t g e ms best (r ∷ rs) =
    let walked = and_then (g ms r) (λ l k. stretch t g e l (max best (k + 1)) rs) in
    let passed = stretch t g e ms best rs in
    let next = cond (t.counts e r) walked passed in
    cond (ltb r t.count) next (out ms (Bad out_of_range e r))

-- "a finished entry is not walked again. Meeting an unfinished entry is refusal 19"
unfoldable pub entry : ℕ → Table → List ℕ → List ℕ → ℕ → Out
entry zero t p ms e = by_mark (get_or ms e 0) (out ms (Rank 0)) (out ms (Ring (from e p))) (λ k. out ms (Rank k))
entry (suc f) t p ms e =
    let start = and_then (stretch t (entry f t (p ++ e ∷ [])) e (set ms e 1) 0 (t.refs e)) (finish t e) in
    by_mark (get_or ms e 0) start (out ms (Ring (from e p))) (λ k. out ms (Rank k))

-- "From entry 0 upward": the entries from i on, as many as left
unfoldable pub upward : ℕ → Table → List ℕ → ℕ → ℕ → Out
upward f t ms i zero = out ms (Rank 0)
upward f t ms i (suc left) = and_then (entry f t [] ms i) (λ l k. upward f t l (suc i) left)

unfoldable pub resolve : Table → Out
resolve t = upward t.count t (replicate t.count 0) 0 t.count

-- "the count of entries still unstarted", which bounds f and falls
abbrev pub is_new : ℕ → ℕ
is_new zero = 1
is_new (suc m) = 0

unfoldable pub unstarted : List ℕ → ℕ
unstarted [] = 0
unstarted (m ∷ ms) = is_new m + unstarted ms

abbrev pub rank_in : List ℕ → ℕ → ℕ
rank_in ms e = get_or ms e 0 - 2

abbrev pub ranks_of : List ℕ → List ℕ
ranks_of ms = map (λ m. m - 2) ms
