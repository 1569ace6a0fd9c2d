-- How much a request may ask for, and how long requests and replies are: the frame table's numbers.
-- Assumes nothing.
use Rattle.std.specs.Prelude.{◌≡◌, ◌⊎◌, List, ℕ, ◌+◌}
use Rattle.registers.specs.Packing.{bytes_for_bits, bytes_for_words}
use Rattle.frames.specs.declared.Width.{Width}
use Rattle.frames.specs.declared.Width.TheVariants.{Bit, Word}
use Rattle.frames.specs.declared.Act.{Act}
use Rattle.frames.specs.declared.Act.TheVariants.{Read, WriteOne, WriteRun}
use Rattle.frames.specs.Fields.{quantity_field, byte_count_field}

-- how many bits or words a request is about: one, or as many as its quantity says
abbrev pub quantity : Act → List ℕ → ℕ
quantity Read frame = quantity_field frame
quantity WriteOne frame = 1
quantity WriteRun frame = quantity_field frame

-- the most: 256 bits, 80 words, or the one
abbrev pub most_of_a_run : Width → ℕ
most_of_a_run Bit = 256
most_of_a_run Word = 80

abbrev pub most : Act → Width → ℕ
most Read width = most_of_a_run width
most WriteOne width = 1
most WriteRun width = most_of_a_run width

-- the bytes that a quantity of bits or words takes: divided by 8, rounded up, or twice the quantity
abbrev pub bytes_for : Width → ℕ → ℕ
bytes_for Bit count = bytes_for_bits count
bytes_for Word count = bytes_for_words count

-- the bytes of a frame with two numbers for its data
abbrev pub plain_length : ℕ
plain_length = 8

-- Requests 01 to 06 have exactly 8 bytes; 0F and 10 have exactly 9 plus the byte count. (Under 9
-- bytes, 0F and 10 have no byte count; whatever byte is read for it, 9 plus that byte is more than the length.)
abbrev pub request_length : Act → List ℕ → ℕ
request_length Read frame = plain_length
request_length WriteOne frame = plain_length
request_length WriteRun frame = 9 + byte_count_field frame

-- the reply to a read: address, function, byte count, the bytes that it counts, check word; to a write: two numbers for its data
abbrev pub reply_length : Act → Width → ℕ → ℕ
reply_length Read width count = 5 + bytes_for width count
reply_length WriteOne width count = plain_length
reply_length WriteRun width count = plain_length

-- the value of a single bit: FF00 on or 0000 off
abbrev pub on : ℕ
on = 0xff00

abbrev pub off : ℕ
off = 0x0000

abbrev pub BitValue : ℕ → Type 0
BitValue value = (value ≡ on) ⊎ (value ≡ off)
