-- The report of a run over encrypted memory, from its parts.
use Rattle.std.proofs.Common.{◌≡◌, ◌∙◌, ℕ, List, [], ◌∷◌, ◌++◌, append_assoc, ap}
use Rattle.std.specs.Prelude.{codes}
use Rattle.std.specs.Fmt.{decimal}
use Rattle.secure_machine.specs.declared.report.Report.{Report}
use Rattle.ascend_top.specs.Texts.{run_ending_text, run_text}

-- what follows the ending in the first four lines
abbrev pub first_lines : (instructions cycles last : ℕ) → List ℕ
first_lines instructions cycles last =
    10 ∷ codes "instructions " ++ (decimal instructions ++ (10 ∷ codes "cycles " ++ (decimal cycles
    ++ (10 ∷ codes "last " ++ (decimal last ++ 10 ∷ [])))))

abbrev pub next_lines : (fetches real dummies : ℕ) → List ℕ
next_lines fetches real dummies =
    codes "fetches " ++ (decimal fetches ++ (10 ∷ codes "real " ++ (decimal real
    ++ (10 ∷ codes "dummies " ++ (decimal dummies ++ 10 ∷ [])))))

abbrev pub last_lines : (choices code altered : ℕ) → List ℕ
last_lines choices code altered =
    codes "choices " ++ (decimal choices ++ (10 ∷ codes "code " ++ (decimal code
    ++ (10 ∷ codes "altered " ++ (decimal altered ++ 10 ∷ [])))))

pub ten_lines : (report : Report) (altered : ℕ) (ending first second text : List ℕ)
    → ending ≡ run_ending_text report.ending
    → first ≡ ending ++ first_lines report.instructions report.cycles report.last
    → second ≡ next_lines report.fetches report.real report.dummies
    → text ≡ first ++ (second ++ last_lines report.choices report.code altered)
    → text ≡ run_text report altered
ten_lines report altered ending first second text e f s t =
    let ends = last_lines report.choices report.code altered in
    let begins = first_lines report.instructions report.cycles report.last in
    t ∙ ap (λ x. x ++ (second ++ ends)) (f ∙ ap (λ x. x ++ begins) e)
    ∙ ap (λ x. (run_ending_text report.ending ++ begins) ++ (x ++ ends)) s
    ∙ simp append_assoc
