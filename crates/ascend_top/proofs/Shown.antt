-- What is said over files that are told, or that a host may show.
use Rattle.std.proofs.Common.{◌≡◌, ℕ, List, Option, Some, None, IfSome, refl, subst, arith}
use Rattle.std.specs.Prelude.{◌+◌, replicate}
use Rattle.std.proofs.lemmas.List.{length-replicate}
use Rattle.asc_outside.specs.Host.{Files, IsLonger}
use Rattle.ascend_top.specs.Steps.{Shows}

-- what is shown of told files, and what of any
pub shown : (told : Option Files) (Says : Files → Type 0) → Shows told Says → (files : Files) → told ≡ Some files
    → Says files
unfolding Shows
shown (Some known) Says says files e = let same : known ≡ files = cc in subst Says same says
shown None Says says files e = absurd (let no : ⊥ = cc in no)

pub shows_any : (told : Option Files) (Says : Files → Type 0) → ((files : Files) → Says files) → Shows told Says
unfolding Shows
shows_any (Some files) Says says = says files
shows_any None Says says = (λ name. None, says (λ name. None))

pub shows_more : (told : Option Files) (Says More : Files → Type 0) → ((files : Files) → Says files → More files)
    → Shows told Says → Shows told More
unfolding Shows
shows_more (Some files) Says More more says = more files says
shows_more None Says More more (files, says) = (files, more files says)

-- the bytes of a file that was read are shown
pub shows_file : (told : Option Files) (name bytes : List ℕ) (Says : Files → Type 0)
    → IfSome told (λ files. files name ≡ Some bytes) → ((files : Files) → files name ≡ Some bytes → Says files)
    → Shows told Says
unfolding Shows
shows_file (Some files) name bytes Says is says = says files is
shows_file None name bytes Says is says = (λ other. Some bytes, says (λ other. Some bytes) refl)

-- so is one that is longer than a limit
pub shows_longer : (told : Option Files) (name : List ℕ) (limit : ℕ) (Says : Files → Type 0)
    → IfSome told (λ files. IsLonger files name limit) → ((files : Files) → IsLonger files name limit → Says files)
    → Shows told Says
unfolding Shows
shows_longer (Some files) name limit Says is says = says files is
shows_longer None name limit Says is says =
    let long : List ℕ = replicate (limit + 1) 0 in (
      λ other. Some long,
      says (λ other. Some long) (long, refl, omega (arith, length-replicate {A = ℕ} (limit + 1) 0)),
    )
