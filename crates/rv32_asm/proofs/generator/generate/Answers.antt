use Rattle.std.proofs.Common.{rules, ◌≡◌, ◌∙◌, ◌≤◌, Ok, Err, string_bytes, length, List, ℕ, ap, sym, subst, Vec, Global}
use Rattle.std.specs.Prelude.{Result}
use Rattle.rv32_asm.specs.File.{assembled}
use Rattle.rv32_asm.specs.Generator.{generated_text, generated_file, start}
use Rattle.rv32_asm.specs.PassViews.{GivesProgram}
use Rattle.rv32_asm.specs.declared.fault.AsmFault.{AsmFault}
use Rattle.rv32_asm.specs.declared.fault.AsmFault.TheVariants.{Bad}
use Rattle.rv32_asm.proofs.GeneratorLaws.{text_short, text_assembles}
use Rattle.rv32_asm.proofs.generator.generate.Goals as goal

pub assemble-requires-clause-short : goal.assemble-requires-clause-short
assemble-requires-clause-short c =
    let text : string_bytes c.in_ok-text.text ≡ generated_text c.args.seed c.args.words = search rules in
    let P : List ℕ → Type 0 = λ text. length text ≤ 4_194_304 in
    subst P (sym (c.as_bytes.ensures.value ∙ text)) (text_short c.args.seed c.args.words c.requires.most)

-- what has a program has no fault
no_fault : (meant : Result (List ℕ) AsmFault) (file : List ℕ) (fault : AsmFault)
    → meant ≡ Ok file → meant ≡ Err fault → ⊥
no_fault meant file fault one other = absurd (cc)

pub unreachable-requires : goal.unreachable-requires
unreachable-requires c =
    let text : string_bytes c.in_ok-text.text ≡ generated_text c.args.seed c.args.words = search rules in
    let P : AsmFault → Type 0 =
    λ fault. GivesProgram {X = Vec ℕ Global} (λ file. file.items) (Err fault) (assembled start c.as_bytes.result.now) in
    no_fault (assembled start c.as_bytes.result.now) (generated_file c.args.seed c.args.words)
    (Bad c.in-Err-Bad.field-0-0 c.in-Err-Bad.field-0-1)
    (ap (assembled start) (c.as_bytes.ensures.value ∙ text)
    ∙ text_assembles c.args.seed c.args.words c.requires.most)
    (subst P c.in-Err-Bad.field-0-is (c.in-Err-Bad.ensures {u = tt}))
