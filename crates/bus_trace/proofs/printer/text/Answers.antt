use Rattle.std.proofs.Common.{sym, ap, ◌∙◌, ◌≡◌, map, [], ◌∷◌}
use Rattle.std.proofs.Common.{◌++◌, append-nil, append_assoc}
use Rattle.std.specs.Prelude.{string_bytes, codes}
use Rattle.std.specs.Fmt.{decimal}
use Rattle.bus_watch.specs.Recorder.{lists_of}
use Rattle.bus_trace.specs.Trace.{header_lines, access_line, end_line, public_of, text_of}
use Rattle.bus_trace.specs.OfLog.{seen_in}
use Rattle.bus_trace.proofs.TextLaws.{text_of_join, text_of_one}
use Rattle.bus_trace.proofs.printer.text.Goals as goal

pub returns : goal.returns
returns c =
    let log = lists_of c.args.log.now in
    let p = public_of c.args.header.now in
    let header = text_of (header_lines p) in
    let accesses = map access_line (seen_in p.levels log) in
    let a : string_bytes c.add_header.new.text ≡ header =
    c.in_ok-add_header.ensures ∙ ap (λ old. old ++ header) c.new-text.ensures.bytes in
    let b : string_bytes c.add_accesses.new.text ≡ header ++ text_of accesses =
    c.in_ok-add_accesses.ensures
    ∙ ap (λ old. old ++ text_of (map access_line c.deref.result.now)) a
    ∙ ap (λ seen. header ++ text_of (map access_line seen)) (c.deref.ensures.value ∙ c.in_ok-seen.ensures) in
    let e : string_bytes c.write.new.self ≡ string_bytes c.add_accesses.new.text ++ (codes "end " ++
    (decimal c.args.end ++ 10 ∷ [])) = c.in_ok-write.ensures.bytes in
    let last : codes "end " ++ (decimal c.args.end ++ 10 ∷ []) ≡ end_line c.args.end ++ 10 ∷ [] = simp
    (append_assoc, append-nil) in
    e ∙ ap (λ old. old ++ (codes "end " ++ (decimal c.args.end ++ 10 ∷ []))) b
    ∙ ap (λ one. (header ++ text_of accesses) ++ one) (last ∙ sym (text_of_one (end_line c.args.end)))
    ∙ append_assoc header (text_of accesses) (text_of (end_line c.args.end ∷ []))
    ∙ ap (λ rest. header ++ rest) (sym (text_of_join accesses (end_line c.args.end ∷ [])))
    ∙ sym (text_of_join (header_lines p) (accesses ++ end_line c.args.end ∷ []))
