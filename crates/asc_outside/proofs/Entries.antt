-- A file by its name, in the map that keeps the files.
use Rattle.std.proofs.Common.{◌≡◌, ℕ, List, [], ◌∷◌, Option, Some, Bool, true, false, cond, refl, sym, ap, ◌∙◌}
use Rattle.std.proofs.Common.{String, Vec, Global, string_bytes}
use Rattle.std.specs.Cmp.Lexicographic.{slice_cmp}
use Rattle.std.specs.Map.{lookup}
use Rattle.std.specs.Option.{option_map}
use Rattle.std.specs.Ordering.{is_eq, nat_cmp}
use Rattle.std.specs.Str.{bytes_eq}
use Rattle.std.proofs.lemmas.Map.Text.{is_eq-slice_cmp}
use Rattle.asc_outside.specs.MemHost.{file_of}
use Rattle.asc_outside.specs.NamedFiles.{file_pairs}

choose : {A B : Type 0} (f : A → B) (b : Bool) (x : A) (o : Option A)
    → cond b (Some (f x)) (option_map f o) ≡ option_map f (cond b (Some x) o)
choose f true x o = refl
choose f false x o = refl

-- whether a key of the map is a name
abbrev pub is_key : List ℕ → String Global → Bool
is_key name key = is_eq (slice_cmp nat_cmp name (string_bytes key))

pub file_of-file_pairs : (entries : List (String Global × Vec ℕ Global)) (name : List ℕ)
    → file_of (file_pairs entries) name ≡ option_map (λ bytes. bytes.items) (lookup (is_key name) entries)
file_of-file_pairs [] name = refl
file_of-file_pairs (e ∷ es) name =
    let rest : Option (List ℕ) = option_map (λ bytes. bytes.items) (lookup (is_key name) es) in
    ap (λ o. cond (bytes_eq name (string_bytes e.0)) (Some e.1.items) o) (file_of-file_pairs es name)
    ∙ ap (λ b. cond b (Some e.1.items) rest) (sym (is_eq-slice_cmp name (string_bytes e.0)))
    ∙ choose (λ bytes. bytes.items) (is_key name e.0) e.1 _

-- where a look-up in the new map is that in the old one with one file changed, so are the files
pub file_of-update : (old new : List (String Global × Vec ℕ Global)) (name : List ℕ) (bytes : Vec ℕ Global)
    (other : List ℕ)
    → lookup (is_key other) new ≡ cond (bytes_eq name other) (Some bytes) (lookup (is_key other) old)
    → file_of (file_pairs new) other
    ≡ cond (bytes_eq name other) (Some bytes.items) (file_of (file_pairs old) other)
file_of-update old new name bytes other found =
    file_of-file_pairs new other
    ∙ ap (option_map (λ bytes. bytes.items)) found
    ∙ sym (choose (λ bytes. bytes.items) (bytes_eq name other) bytes _)
    ∙ ap (cond (bytes_eq name other) (Some bytes.items)) (sym (file_of-file_pairs old other))
