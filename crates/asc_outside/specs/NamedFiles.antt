-- Files in a map by their names.
use Rattle.std.specs.Prelude.{ℕ, List, map, string_bytes, String, Vec}
use Rattle.std.specs.declared.alloc.Global.{Global}

-- the files, each as a pair of lists
abbrev pub file_pairs : List (String Global × Vec ℕ Global) → List (List ℕ × List ℕ)
file_pairs entries = map (λ file. (string_bytes file.0, file.1.items)) entries
