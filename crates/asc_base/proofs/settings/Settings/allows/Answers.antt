use Rattle.std.specs.Prelude.{◌↔◌, IsTrue}
use Rattle.std.proofs.Common.{◌≡◌, ℕ, ◌+◌, ◌-◌, ◌%◌, ◌≤◌, arith, lit<}
use Rattle.std.proofs.Math.Dec.{leb}
use Rattle.std.proofs.lemmas.Bool.{le-leb, leb-true}
use Rattle.asc_base.specs.declared.settings.Setting.TheVariants.{Size}
use Rattle.asc_base.proofs.settings.Settings.allows.Goals as goal

-- the sum is at most the limit where it may be subtracted from
in_base : (base size : ℕ) → size ≤ 16777216 → base % 4096 ≡ 0
    → IsTrue (leb base (4294901760 - size)) ↔ ((base % 4096 ≡ 0) × (base + size ≤ 4294901760))
in_base base size small pages = (
  λ low. let fits : base ≤ 4294901760 - size = leb-true _ _ low in (pages, omega arith),
  λ both. let sum =
      both.1 in le-leb _ _ (omega arith),
)

pub overflow_sub-result : goal.overflow_sub-result
overflow_sub-result c =
    let size = c.requires Size (rw c.in-Base.is (lit< tt)) in
    omega (arith, size.0)

pub allows_epoch-requires : goal.allows_epoch-requires
allows_epoch-requires c earlier before = c.requires earlier (rw c.in-Epoch.is before)

pub returns-then-self-eq0 : goal.returns-then-self-eq0
returns-then-self-eq0 c =
    let size = c.requires Size (rw c.in-Base.is (lit< tt)) in
    rw c.in-Base.is (in_base c.args.self.now.base c.args.self.now.size size.0.1 c.if-self-eq0.true)
