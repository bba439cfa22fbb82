-- Points and their texts.
use Rattle.std.proofs.Common.{◌≡◌, true, take, drop, ◌==◌, ◌&&◌, refl, ap, ◌∙◌}
use Rattle.std.proofs.lemmas.Bool.{eqb-true, eq-eqb}
use Rattle.asc_base.proofs.Bytes.{number_of_2, number_of_4, number_of_8, both}
use Rattle.asc_base.specs.declared.block.Address.{Address}
use Rattle.asc_base.specs.declared.block.Counter.{Counter}
use Rattle.asc_base.specs.declared.block.Point.{Point}
use Rattle.asc_base.specs.declared.block.Point.TheVariants.{Real, Dummy}
use Rattle.leaf_function.specs.Leaf.{point_text, IsPoint}
use Rattle.leaf_function.specs.Table.{same_point}

-- a block under a counter, by its three numbers
same_real : (a b : Address) (c d : Counter) → a.0 ≡ b.0 → c.group ≡ d.group → c.own ≡ d.own → Real a c ≡ Real b d
same_real a b c d p q r =
    ap (λ n. Real (record { 0 = n }) c) p ∙ ap (λ n. Real b (record { group = n; own = c.own })) q
    ∙ ap (λ n. Real b (record { group = d.group; own = n })) r

-- a text is that of one point
pub point_of_text : (x y : Point) → IsPoint x → IsPoint y → point_text x ≡ point_text y → x ≡ y
unfolding point_text
point_of_text (Real a c) (Real b d) h k e =
    same_real a b c d (number_of_4 a.0 b.0 h.0 k.0 (ap (λ t. take 4 (drop 1 t)) e))
    (number_of_8 c.group d.group h.1 k.1 (ap (λ t. take 8 (drop 5 t)) e))
    (number_of_2 c.own d.own h.2 k.2 (ap (drop 13) e))
point_of_text (Real a c) (Dummy n) h k e = absurd (cc)
point_of_text (Dummy m) (Real b d) h k e = absurd (cc)
point_of_text (Dummy m) (Dummy n) h k e = ap Dummy (number_of_8 m n h k (ap (drop 1) e))

-- the search's test holds of one point
pub point_of_test : (x y : Point) → same_point x y ≡ true → x ≡ y
point_of_test (Real a c) (Real b d) e =
    let outer = both (a.0 == b.0 && c.group == d.group) (c.own == d.own) e in
    let inner = both (a.0 == b.0) (c.group == d.group) outer.0 in
    same_real a b c d (eqb-true a.0 b.0 inner.0) (eqb-true c.group d.group inner.1) (eqb-true c.own d.own outer.1)
point_of_test (Real a c) (Dummy n) e = absurd (cc)
point_of_test (Dummy m) (Real b d) e = absurd (cc)
point_of_test (Dummy m) (Dummy n) e = ap Dummy (eqb-true m n e)

-- and of every point with itself
pub test_of_itself : (x : Point) → same_point x x ≡ true
test_of_itself (Real a c) =
    rw (eq-eqb a.0 a.0 refl, eq-eqb c.group c.group refl, eq-eqb c.own c.own refl) refl
test_of_itself (Dummy n) = eq-eqb n n refl
