-- Numbers of two bytes, and where the fields of a frame stand.
-- Assumes nothing.
use Rattle.std.specs.Prelude.{List, ℕ, ◌+◌, take, drop, get_or}
use Rattle.registers.specs.Packing.{high_first}

-- byte i of a frame (past its end, 0)
abbrev pub byte : List ℕ → ℕ → ℕ
byte bytes i = get_or bytes i 0

-- a number of two bytes, of which the first is byte i
unfoldable pub number : List ℕ → ℕ → ℕ
number bytes i = high_first (byte bytes i) (byte bytes (i + 1))

-- every frame: station address, function, data, check word
abbrev pub station_field : List ℕ → ℕ
station_field frame = byte frame 0

abbrev pub function_field : List ℕ → ℕ
function_field frame = byte frame 1

-- a request's data: the start, or the address of the one bit or word ..
abbrev pub start_field : List ℕ → ℕ
start_field frame = number frame 2

-- .. the quantity, or the value of the one bit or word ..
abbrev pub quantity_field : List ℕ → ℕ
quantity_field frame = number frame 4

abbrev pub value_field : List ℕ → ℕ
value_field frame = number frame 4

-- .. the byte count, and as many bytes of bits or words
abbrev pub byte_count_field : List ℕ → ℕ
byte_count_field frame = byte frame 6

abbrev pub data_field : List ℕ → List ℕ
data_field frame = take (byte_count_field frame) (drop 7 frame)

-- what stands before the byte count: station address, function, start, and quantity or value
abbrev pub up_to_quantity : List ℕ → List ℕ
up_to_quantity frame = take 6 frame
