use Rattle.std.proofs.Common.{ap, ◌∙◌, ◌≡◌, ℕ, List}
use Rattle.std.proofs.Common.{◌++◌, append_assoc}
use Rattle.std.specs.Prelude.{string_bytes, OnOk, codes, Result, Ok, Err}
use Rattle.std.specs.Fmt.{decimal}
use Rattle.bus_trace.specs.Trace.{header_lines, public_of, spaced, text_of}
use Rattle.bus_schedule.specs.Timetable.{Public}
use Rattle.bus_trace.proofs.TextLaws.{header_is, first_on}
use Rattle.bus_trace.proofs.printer.add_header.Goals as goal

onok : {E : Type 0} (r : Result (Unit {0}) E) (x y z : List ℕ) → OnOk r (x ≡ y) → y ≡ z → OnOk r (x ≡ z)
onok (Ok _) x y z h e = h ∙ e
onok (Err _) x y z h e = h

-- the three parts of a header
joined : (p : Public) (old first second : List ℕ)
    → first ≡ old ++ (codes "ascend trace 1\nlevels " ++ (decimal p.levels ++ codes "\nrates"))
    → second ≡ first ++ spaced p.rates → second ++ first_on p ≡ old ++ text_of (header_lines p)
joined p old first second a b =
    let begun : List ℕ = codes "ascend trace 1\nlevels " ++ (decimal p.levels ++ codes "\nrates") in
    ap (λ t. t ++ first_on p) (b ∙ ap (λ t. t ++ spaced p.rates) a)
    ∙ append_assoc (old ++ begun) (spaced p.rates) (first_on p)
    ∙ append_assoc old begun (spaced p.rates ++ first_on p)
    ∙ ap (λ t. old ++ (codes "ascend trace 1\nlevels " ++ t))
    (append_assoc (decimal p.levels) (codes "\nrates") (spaced p.rates ++ first_on p))
    ∙ ap (λ t. old ++ t) (header_is p)

pub returns : goal.returns
returns c =
    let p = public_of c.args.header.now in
    let mid : string_bytes c.add_numbers.new.text ≡ string_bytes c.write.new.self ++ spaced p.rates =
    c.in_ok-add_numbers.ensures in
    onok c.write-2.result (string_bytes c.write-2.new.self) (string_bytes c.add_numbers.new.text ++ first_on p)
    (string_bytes c.args.text.now ++ text_of (header_lines p)) c.write-2.ensures.bytes
    (joined p (string_bytes c.args.text.now) (string_bytes c.write.new.self) (string_bytes c.add_numbers.new.text)
    c.in_ok-write.ensures.bytes mid)
