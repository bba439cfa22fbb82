-- What stands in the files, and what was printed, where a run over encrypted memory was reported.
use Rattle.std.proofs.Common.{◌≡◌, ℕ, List, [], ◌∷◌, Option, Some, None, sym, ap, subst, ◌∙◌, append-nil}
use Rattle.asc_outside.specs.Host.{Files, HostState, OthersStay}
use Rattle.ascend_words.specs.Grammar.{Pair}
use Rattle.ascend_words.specs.Settings.{text_in}
use Rattle.ascend_words.specs.declared.table.Name.TheVariants.{Output, Trace}
use Rattle.ascend_top.specs.FlatRun.{file_in}
use Rattle.ascend_top.specs.Run.{run_report_steps}
use Rattle.ascend_top.specs.Steps.{AllDone, Prints, PrintsMore, Writes, where_named}
use Rattle.ascend_top.specs.Texts.{run_text}
use Rattle.ascend_top.specs.declared.commands.run.Encrypted.{Encrypted}
use Rattle.ascend_top.proofs.EndLaws.{still_told}
use Rattle.ascend_top.proofs.StepLaws.{at_some}

nothing_more : (old new : Option (List ℕ)) → PrintsMore old [] new → new ≡ old
nothing_more None new e = e
nothing_more (Some all) new e = e ∙ ap Some (append-nil all)

-- a text was printed, and nothing else was done
print_alone : (text : List ℕ) (old new : HostState) → AllDone (Prints text ∷ []) old new
    → (new.files ≡ old.files) × PrintsMore old.printed text new.printed
print_alone text old new (after, does, e) = (
  ap (λ (s : HostState). s.files) e ∙ does.files,
  subst (λ (s : HostState). PrintsMore old.printed text s.printed) (sym e) does.printed,
)

-- the text is printed behind the write of a trace, where one is named
traced_printed : (o : Option (List ℕ)) (trace text : List ℕ) (old new : HostState)
    → AllDone (where_named o trace (Prints text ∷ [])) old new → PrintsMore old.printed text new.printed
traced_printed None trace text old new done = (print_alone text old new done).1
traced_printed (Some name) trace text old new (after, does, rest) =
    subst (λ p. PrintsMore p text new.printed) (nothing_more old.printed after.printed does.printed)
    (print_alone text after new rest).1

-- and the file of the trace has its text
traced_file : (name trace text : List ℕ) (old new : HostState) (files : Files)
    → AllDone (Writes name trace ∷ Prints text ∷ []) old new → new.files ≡ Some files → files name ≡ Some trace
traced_file name trace text old new files (after, does, rest) told =
    at_some (λ (f : Files). f name ≡ Some trace) after.files files does.files.1
    (sym (print_alone text after new rest).0 ∙ told)

-- another file that was written before stays
other_stays : (name other bytes : List ℕ) (old new : Option Files) (files : Files) → OthersStay name old new
    → (other ≡ name → ⊥) → ((before : Files) → old ≡ Some before → before other ≡ Some bytes) → new ≡ Some files
    → files other ≡ Some bytes
other_stays name other bytes old new files stay differs was told =
    let before = still_told new old files (sym stay.told) told in
    stay.others before.0 files before.1 told other differs ∙ was before.0 before.1

written_stays : (o : Option (List ℕ)) (output bytes trace text : List ℕ) (old new : HostState) (files : Files)
    → (o ≡ Some output → ⊥) → ((before : Files) → old.files ≡ Some before → before output ≡ Some bytes)
    → AllDone (where_named o trace (Prints text ∷ [])) old new → new.files ≡ Some files → files output ≡ Some bytes
written_stays None output bytes trace text old new files differs was done told =
    was files (sym (print_alone text old new done).0 ∙ told)
written_stays (Some name) output bytes trace text old new files differs was (after, does, rest) told =
    other_stays name output bytes old.files after.files files does.files.0 (λ e. differs (ap Some (sym e))) was
    (sym (print_alone text after new rest).0 ∙ told)

module _ (given : List Pair) (run : Encrypted) (old new : HostState)
    (done : AllDone (run_report_steps given run) old new) where
  abbrev text : List ℕ
  text = run_text run.report run.altered

  pub report_printed : PrintsMore old.printed text new.printed
  report_printed =
      let (mid, does, rest) = done in
      subst (λ p. PrintsMore p text new.printed) (nothing_more old.printed mid.printed does.printed)
      (traced_printed (text_in given Trace) run.trace.items text mid new rest)

  pub output_file : (files : Files) → new.files ≡ Some files → (text_in given Trace ≡ Some (file_in given Output) → ⊥)
      → files (file_in given Output) ≡ Some run.report.output.items
  output_file files told differs =
      let (mid, does, rest) = done in
      written_stays (text_in given Trace) (file_in given Output) run.report.output.items run.trace.items text mid new
      files differs
      (λ before is. at_some (λ (f : Files). f (file_in given Output) ≡ Some run.report.output.items) mid.files before
      does.files.1 is) rest told

  pub trace_file : (name : List ℕ) (files : Files) → new.files ≡ Some files → text_in given Trace ≡ Some name
      → files name ≡ Some run.trace.items
  trace_file name files told named =
      let (mid, does, rest) = done in
      traced_file name run.trace.items text mid new files
      (subst (λ o. AllDone (where_named o run.trace.items (Prints text ∷ [])) mid new) named rest) told
