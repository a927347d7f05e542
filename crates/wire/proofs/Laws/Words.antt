-- Laws of specs/Words.antt: a word is std's little-endian number of eight bytes, and the words are those of the chunks.
--     Joined bytes left word     word is the number of the bytes from `left` on, of eight;  Joined-more  it takes one more in front
--     word-joined                the number of chunk i is the word at i, by way of `Joined`;  word-is  for any numbers
-- Assumes nothing.
use Rattle.std.proofs.Common.{◌≡◌, refl, sym, ap, ◌∙◌, ℕ, zero, suc, ◌+◌, ◌-◌, ◌*◌, ◌^◌, ◌<◌, ◌≤◌, ◌/◌, List, [], ◌∷◌, length, get_or, drop, arith, w64}
use Rattle.std.proofs.lemmas.List.{get_or-take, get_or-drop}
use Rattle.std.specs.Simd.{first_chunks}
use Rattle.std.specs.Int.{from_le_bytes}
use lib.ListN.{take, length-drop}
use lib.Pow.{pow-add}
use lib.Seq.{drop-length, length-take-le}
use Rattle.wire.specs.Words.{word_of, first_words, words_in}

word_of-more : (bytes : List ℕ) (k : ℕ) → word_of (drop k bytes) ≡ word_of (drop (suc k) bytes) * 256 + get_or bytes k 0
unfolding word_of
word_of-more [] zero = refl
word_of-more [] (suc k) = refl
word_of-more (b ∷ bytes) zero = refl
word_of-more (b ∷ bytes) (suc k) = word_of-more bytes k

word_of-is : (bytes : List ℕ) → length bytes ≡ 8 → word_of bytes ≡ from_le_bytes w64 bytes
unfolding word_of
word_of-is bytes long =
    let none : word_of (drop 8 bytes) ≡ 0 = ap (λ n. word_of (drop n bytes)) (sym long) ∙ ap word_of (drop-length bytes) in
    omega (arith, none, word_of-more bytes 0, word_of-more bytes 1, word_of-more bytes 2, word_of-more bytes 3, word_of-more bytes 4, word_of-more bytes 5, word_of-more bytes 6, word_of-more bytes 7)

length-first_words : (count : ℕ) (bytes : List ℕ) → length (first_words count bytes) ≡ count
unfolding first_words
length-first_words zero bytes = refl
length-first_words (suc count) bytes = ap suc (length-first_words count (drop 8 bytes))

pub length-words_in : (bytes : List ℕ) → length (words_in bytes) ≡ length bytes / 8
length-words_in bytes = length-first_words (length bytes / 8) bytes

-- the number of chunk i is the word at i
chunk-is : (count : ℕ) (bytes : List ℕ) (i : ℕ) → count * 8 ≤ length bytes → i < count
    → from_le_bytes w64 (get_or (first_chunks 8 count bytes) i []) ≡ get_or (first_words count bytes) i 0
unfolding first_words
chunk-is zero bytes i fits lt = absurd (omega arith)
chunk-is (suc count) bytes zero fits lt = sym (word_of-is (take 8 bytes) (length-take-le 8 bytes (omega arith)))
chunk-is (suc count) bytes (suc i) fits lt = chunk-is count (drop 8 bytes) i (omega (arith, length-drop 8 bytes)) (omega arith)

pub word-is : (bytes : List ℕ) (i : ℕ) → i < length bytes / 8
    → from_le_bytes w64 (get_or (first_chunks 8 (length bytes / 8) bytes) i []) ≡ get_or (words_in bytes) i 0
word-is bytes i lt = chunk-is (length bytes / 8) bytes i (omega arith) lt

pub record Joined (bytes : List ℕ) (left word : ℕ) : Type 0 where
  pub in_bytes : left ≤ 8
  pub small : word < 2 ^ (8 * (8 - left))
  pub is : word ≡ word_of (drop left bytes)

pub Joined-more : (bytes : List ℕ) (left next word : ℕ) → Joined bytes left word → length bytes ≡ 8 → left ≡ suc next
    → get_or bytes next 0 < 256 → Joined bytes next (word * 256 + get_or bytes next 0)
Joined-more bytes left next word j long is small =
    let more : 8 * (8 - next) ≡ 8 * (8 - left) + 8 = omega (arith, j.in_bytes) in
    let wider : 2 ^ (8 * (8 - next)) ≡ 2 ^ (8 * (8 - left)) * 2 ^ 8 = rw more (pow-add 2 (8 * (8 - left)) 8) in
    let after : word ≡ word_of (drop (suc next) bytes) = rw is at j.is in
    record {
      in_bytes = omega arith;
      small = omega (arith, j.small);
      is = rw (after, word_of-more bytes next);
    }

-- no byte is read yet
Joined-first : (bytes : List ℕ) → length bytes ≡ 8 → Joined bytes 8 0
unfolding word_of
Joined-first bytes long =
    let none : word_of (drop 8 bytes) ≡ 0 = ap (λ n. word_of (drop n bytes)) (sym long) ∙ ap word_of (drop-length bytes) in
    record { in_bytes = omega arith; small = omega arith; is = sym none }

-- the eight bytes of a word, joined from the last to the first
joined-is : (bytes : List ℕ) → length bytes ≡ 8 → ((k : ℕ) → k < 8 → get_or bytes k 0 < 256)
    → from_le_bytes w64 bytes ≡ word_of bytes
joined-is bytes long small =
    let last = Joined-more bytes 8 7 _ (Joined-first bytes long) long refl (small 7 (omega arith)) in
    let seventh = Joined-more bytes 7 6 _ last long refl (small 6 (omega arith)) in
    let sixth = Joined-more bytes 6 5 _ seventh long refl (small 5 (omega arith)) in
    let fifth = Joined-more bytes 5 4 _ sixth long refl (small 4 (omega arith)) in
    let fourth = Joined-more bytes 4 3 _ fifth long refl (small 3 (omega arith)) in
    let third = Joined-more bytes 3 2 _ fourth long refl (small 2 (omega arith)) in
    let second = Joined-more bytes 2 1 _ third long refl (small 1 (omega arith)) in
    let first = Joined-more bytes 1 0 _ second long refl (small 0 (omega arith)) in
    omega (arith, first.is)

chunk-joined : (count : ℕ) (bytes : List ℕ) (i : ℕ) → count * 8 ≤ length bytes → ((k : ℕ) → get_or bytes k 0 < 256) → i < count
    → from_le_bytes w64 (get_or (first_chunks 8 count bytes) i []) ≡ get_or (first_words count bytes) i 0
unfolding first_words
chunk-joined zero bytes i fits small lt = absurd (omega arith)
chunk-joined (suc count) bytes zero fits small lt =
    joined-is (take 8 bytes) (length-take-le 8 bytes (omega arith)) (λ k inside. rw (get_or-take 8 bytes k 0 inside) (small k))
chunk-joined (suc count) bytes (suc i) fits small lt =
    chunk-joined count (drop 8 bytes) i (omega (arith, length-drop 8 bytes)) (λ k. rw (get_or-drop 8 bytes k 0) (small (8 + k))) (omega arith)

pub word-joined : (bytes : List ℕ) (i : ℕ) → ((k : ℕ) → get_or bytes k 0 < 256) → i < length bytes / 8
    → from_le_bytes w64 (get_or (first_chunks 8 (length bytes / 8) bytes) i []) ≡ get_or (words_in bytes) i 0
word-joined bytes i small lt = chunk-joined (length bytes / 8) bytes i (omega arith) small lt
