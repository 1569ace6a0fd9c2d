-- Runs as bytes, as they go over the line, and a buffer whose start is filled with them.
-- Assumes nothing.
use Rattle.std.specs.Prelude.{◌≡◌, List, ℕ, ◌+◌, ◌*◌, ◌/◌, ◌≤◌, ◌<◌, length, take, drop, get_or}
use Rattle.registers.specs.Memory.{byte_bits, bit_among, FitIn}

-- the bytes that a run of bits takes: the quantity divided by 8, rounded up; and a run of words: twice the quantity
abbrev pub bytes_for_bits : ℕ → ℕ
bytes_for_bits count = (count + 7) / byte_bits

abbrev pub bytes_for_words : ℕ → ℕ
bytes_for_words count = 2 * count

-- bit n of packed bits: eight to a byte, first bit lowest
abbrev pub packed_bit : List ℕ → ℕ → ℕ
packed_bit bytes = bit_among byte_bits (λ j. get_or bytes j 0)

-- a number of two bytes, high byte first
abbrev pub high_first : ℕ → ℕ → ℕ
high_first high low = high * 256 + low

-- word n of packed words: two bytes each
abbrev pub packed_word : List ℕ → ℕ → ℕ
packed_word bytes n = high_first (get_or bytes (2 * n) 0) (get_or bytes (2 * n + 1) 0)

-- the bytes of a run of bits: they show each of its bits, and 0 past its end
pub record BitsPacked (count : ℕ) (run : ℕ → ℕ) (bytes : List ℕ) : Type 0 where
  pub size : length bytes ≡ bytes_for_bits count
  pub bytes_fit : FitIn byte_bits bytes
  pub shown : (n : ℕ) → n < count → packed_bit bytes n ≡ run n
  pub spare : (n : ℕ) → count ≤ n → packed_bit bytes n ≡ 0

-- the bytes of a run of words: they show each of its words
pub record WordsPacked (count : ℕ) (run : ℕ → ℕ) (bytes : List ℕ) : Type 0 where
  pub size : length bytes ≡ bytes_for_words count
  pub bytes_fit : FitIn byte_bits bytes
  pub shown : (n : ℕ) → n < count → packed_word bytes n ≡ run n

-- a buffer whose first n bytes are as `Shown` says, and the others as they were
pub record Filled (n : ℕ) (Shown : List ℕ → Type 0) (before after : List ℕ) : Type 0 where
  pub as_long : length after ≡ length before
  pub front : Shown (take n after)
  pub rest : drop n after ≡ drop n before
