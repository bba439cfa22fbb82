-- Fetches and stores over a memory of zeros, on which the plans are computed.
use Rattle.std.specs.Prelude.{ℕ, List, [], ◌∷◌, ◌++◌, map, replicate}
use Rattle.request_plan.specs.Play.{play, bare}
use Rattle.asc_base.specs.declared.block.Line.{Line}
use Rattle.asc_base.specs.declared.shape.Shape.{Shape}
use Rattle.oram_walk.specs.Front.{FrontState}
use Rattle.oram_walk.specs.Memory.{Shown, Accessed, Displaced, memory}
use Rattle.oram_walk.specs.Plans.{request_plan}
use Rattle.oram_walk.specs.declared.slots.Purpose.{Purpose}

-- 16,384 lines under 16 roots, 64 lines under 2, and 64 lines under one
abbrev pub default_shape : Shape
default_shape = record {
  lines = 16384;
  layers = 3;
  firsts = 0 ∷ 16384 ∷ 16896 ∷ 0 ∷ 0 ∷ [];
  counts = 16384 ∷ 512 ∷ 16 ∷ 0 ∷ 0 ∷ [];
  levels = 13;
  total = 16912;
  buckets = 16383;
}

abbrev pub flat_shape : Shape
flat_shape = record {
  lines = 64;
  layers = 2;
  firsts = 0 ∷ 64 ∷ 0 ∷ 0 ∷ 0 ∷ [];
  counts = 64 ∷ 2 ∷ 0 ∷ 0 ∷ 0 ∷ [];
  levels = 5;
  total = 66;
  buckets = 63;
}

abbrev pub rooted_shape : Shape
rooted_shape = record {
  lines = 64;
  layers = 3;
  firsts = 0 ∷ 64 ∷ 66 ∷ 0 ∷ 0 ∷ [];
  counts = 64 ∷ 2 ∷ 1 ∷ 0 ∷ 0 ∷ [];
  levels = 5;
  total = 67;
  buckets = 63;
}

-- a front end at the start, with so many roots
abbrev pub start : Shape → ℕ → ℕ → ℕ → FrontState
start shape roots ic plb = record { shape = shape; ic = ic; roots = replicate roots 0; held = []; plb = plb }

abbrev pub zeros : ℕ → Line
zeros address = record { 0 = replicate 64 0 }

-- an access is 1, its block and its counter; a displaced block is 0, its address and its counter
abbrev pub counted : Shown → ℕ × ℕ × ℕ × ℕ
counted (Accessed address counter next purpose line) = (1, address, counter.group, counter.own)
counted (Displaced address counter line) = (0, address, counter.group, counter.own)

-- requests for lines, one after another, each asked for at the end of the one before, where an access takes 752 cycles:
-- what is shown, and the last end
abbrev pub requests : FrontState → ℕ → (ℕ → Line) → Purpose → List ℕ → List (ℕ × ℕ × ℕ × ℕ) × ℕ
requests state asked lines purpose [] = ([], asked)
requests state asked lines purpose (line ∷ rest) =
    let first = play (memory 752) (request_plan state asked (record { 0 = line }) purpose) lines in
    let later = requests (first.outcome).0 ((first.outcome).1).end first.held purpose rest in
    (map counted (bare first.records) ++ later.0, later.1)
