-- Calls of the face that are worked out, in one table, which proofs/Witnesses.antt proves: one for each kind that is told, for each bad
-- argument, and for words of no list. So no law speaks of nothing. The station is the bench station, its reply buffer and the
-- master's have 256 bytes, each AA hex.
-- Assumes nothing.
use Rattle.std.specs.Prelude.{List, [], ◌∷◌, ℕ}
use Rattle.slave.specs.Answer.{over}
use Rattle.demands.specs.Bench.{image, room, two_words}
use Rattle.master.specs.Examples.{the_two_words, one_flipped}
use Rattle.montrakit.specs.Responding.{Respond}
use Rattle.montrakit.specs.Mastering.{Build, Read}

-- words 0 to 7 may be written, 8 to 15 only read
abbrev pub bench_words : List ℕ
bench_words = 0 ∷ 8 ∷ 1 ∷ 8 ∷ 8 ∷ 0 ∷ []

-- these bytes are received, and this is told; the image stays, and the reply buffer then starts with these bytes
abbrev pub Told : ℕ → ℕ → ℕ → List ℕ → List ℕ → ℕ → List ℕ → Type 0
Told own counting state words frame told bytes =
    Respond own counting state words frame image (room 256) told image (over bytes (room 256))

pub record Witnesses : Type 0 where
  -- ---- bad arguments: a counting, a state, and both
  pub counting_2 : Told 20 2 0 bench_words two_words 262145 []
  pub state_3 : Told 20 0 3 bench_words two_words 262146 []
  pub both_bad : Told 20 2 3 bench_words two_words 262145 []
  -- ---- words of no list: five of them, and an access word 2; an own address 0 stands before them
  pub five_words : Told 20 0 0 (0 ∷ 8 ∷ 1 ∷ 8 ∷ 8 ∷ []) two_words 3 []
  pub access_2 : Told 20 0 0 (0 ∷ 8 ∷ 2 ∷ []) two_words 3 []
  pub own_address_0 : Told 0 0 0 (0 ∷ 8 ∷ 2 ∷ []) two_words 1 []
  -- ---- a silence, an exception, a reply; at the keyboard, not ready, and by J-Bus
  pub silence_11 : Told 20 0 0 bench_words (0x14 ∷ 0x03 ∷ 0x00 ∷ 0x01 ∷ 0x00 ∷ 0x02 ∷ 0x97 ∷ 0x0f ∷ []) 65547 []
  pub silence_13 : Told 20 0 2 bench_words two_words 65549 []
  pub exception_4 : Told 20 0 1 bench_words two_words 131076 (0x14 ∷ 0x83 ∷ 0x04 ∷ 0x51 ∷ 0x37 ∷ [])
  pub exception_8 : Told 20 0 0 bench_words (0x14 ∷ 0x06 ∷ 0x00 ∷ 0x08 ∷ 0x00 ∷ 0x01 ∷ 0xcb ∷ 0x0d ∷ []) 131080
      (0x14 ∷ 0x86 ∷ 0x08 ∷ 0x52 ∷ 0x62 ∷ [])
  pub two_words_read : Told 20 0 0 bench_words two_words 196617 the_two_words
  pub three_bits_by_j_bus : Told 20 1 0 bench_words (0x14 ∷ 0x01 ∷ 0x00 ∷ 0x19 ∷ 0x00 ∷ 0x03 ∷ 0xaf ∷ 0x09 ∷ []) 196614
      (0x14 ∷ 0x01 ∷ 0x01 ∷ 0x03 ∷ 0x15 ∷ 0x85 ∷ [])
  -- ---- the master: an unknown function, a request, values, a write done, an exception, a damaged reply
  pub function_7 : Build 20 7 1 2 [] (room 256) 70 (room 256)
  pub function_7_read : Read 20 7 1 2 the_two_words (room 256) 70 (room 256)
  pub built : Build 20 3 1 2 [] (room 256) 327688 (over two_words (room 256))
  pub values : Read 20 3 1 2 the_two_words (room 256) 393220 (over (0x03 ∷ 0xe8 ∷ 0x01 ∷ 0xf4 ∷ []) (room 256))
  pub written : Read 20 5 24 0xff00 (0x14 ∷ 0x05 ∷ 0x00 ∷ 0x18 ∷ 0xff ∷ 0x00 ∷ 0x0e ∷ 0xf8 ∷ []) (room 256) 458752 (room 256)
  pub exception_read : Read 20 6 8 1 (0x14 ∷ 0x86 ∷ 0x08 ∷ 0x52 ∷ 0x62 ∷ []) (room 256) 131080 (room 256)
  pub refused_71 : Read 20 3 1 2 one_flipped (room 256) 71 (room 256)
