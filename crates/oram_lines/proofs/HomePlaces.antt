-- Where no reply is altered each block that was accessed has one place: what dummies and an access leave of that.
use Rattle.std.proofs.Common.{◌≡◌, ◌+◌, ◌++◌, ℕ, zero, suc, List, [], ◌∷◌, nat_eq}
use Rattle.std.proofs.Common.{refl, sym, ap, ◌∙◌}
use Rattle.asc_base.proofs.Lookups.{count_by-promoted}
use Rattle.bus_watch.specs.Log.{LogLists}
use Rattle.oram_contents.specs.Contents.{Contents}
use Rattle.oram_contents.specs.Counts.{Ghost}
use Rattle.oram_contents.specs.Entries.{Keys}
use Rattle.oram_contents.specs.Home.{Home, copies, tree_copies, flying}
use Rattle.oram_contents.specs.Slots.{ArePasses}
use Rattle.posmap_lookaside.specs.Addresses.{used}

-- a list is empty where a longer one is
pub none_before : {A : Type 0} (xs ys zs : List A) → zs ≡ xs ++ ys → zs ≡ [] → xs ≡ []
none_before [] ys zs is none = refl
none_before (x ∷ xs) ys zs is none = absurd (let bad : (x ∷ (xs ++ ys)) ≡ [] = sym is ∙ none in cc)

-- no reply was altered before dummies where none was after them
pub passes_none : (keys : Keys) (k : ℕ) (old new : LogLists) (now after : Contents) (n : ℕ)
    → ArePasses keys k old new now after n → new.altered ≡ [] → old.altered ≡ []
passes_none keys zero old new now after n are none = ap (λ (l : LogLists). l.altered) (sym are.0) ∙ none
passes_none keys (suc k) old new now after n are none =
    let x = are.5 in
    passes_none keys k old are.0 now are.1 n are.3
    (none_before (are.0).altered x.pass.altered x.mid.altered x.pass.altered_are (sym x.ends.altered ∙ none))

-- a held block that is used stays where it is
pub home_used : (keys : Keys) (g : Ghost) (now : Contents) (p : ℕ) → Home keys g now
    → Home keys (record g { held = used g.held p }) now
home_used keys g now p home a inside =
    ap (λ n. copies a now.hand + (tree_copies keys g.path now.mirror a + (n + flying a g.flight)))
    (count_by-promoted (λ b. nat_eq b a) (λ b. nat_eq b p) g.held) ∙ home a inside
