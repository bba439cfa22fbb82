use Rattle.std.proofs.Common.{sym, ap, ◌∙◌, ◌≡◌, map, get_or, take, [], ◌∷◌}
use Rattle.std.proofs.Common.{◌++◌, append-nil, append_assoc}
use Rattle.std.specs.Prelude.{string_bytes, codes}
use Rattle.std.specs.Fmt.{decimal}
use Rattle.std.proofs.lemmas.List.{map_more}
use Rattle.bus_trace.specs.Trace.{access_line, text_of}
use Rattle.bus_trace.specs.declared.trace.Seen.{Seen}
use Rattle.bus_trace.proofs.TextLaws.{text_of_none, text_of_join, text_of_one, access_is}
use Rattle.bus_trace.proofs.printer.add_accesses.Goals as goal

abbrev nothing : Seen
nothing = record { start = 0; leaf = record { 0 = 0 }; moves = 0 }

pub loop-seen-init : goal.loop-seen-init
loop-seen-init c = rw text_of_none (sym (append-nil (string_bytes c.args.text.now)))

pub loop-seen-preserved : goal.loop-seen-preserved
loop-seen-preserved c =
    let accesses = c.args.accesses.now in
    let k = c.loop-seen.seen-index in
    let x = get_or accesses k nothing in
    let text = string_bytes c.loop-seen.text in
    let e : string_bytes c.write.new.self ≡ text ++ (codes "access " ++ (decimal x.start ++ (32 ∷ (decimal x.leaf.0
    ++ (32 ∷ (decimal x.moves ++ 10 ∷ [])))))) = c.in_ok-write.ensures.bytes in
    let before = map access_line (take k accesses) in
    e ∙ ap (λ one. text ++ one) (access_is x ∙ sym (text_of_one (access_line x)))
    ∙ ap (λ old. old ++ text_of (access_line x ∷ [])) c.loop-seen.invariant
    ∙ append_assoc (string_bytes c.args.text.now) (text_of before) (text_of (access_line x ∷ []))
    ∙ ap (λ all. string_bytes c.args.text.now ++ all) (sym (text_of_join before (access_line x ∷ []))
    ∙ ap text_of (sym (map_more access_line accesses k nothing c.loop-seen-test.true)))
