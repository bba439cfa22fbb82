-- The steps of `gen` that make, write and load its program.
use Rattle.std.proofs.Common.{◌≡◌, ℕ, List, [], ◌∷◌, Option, Ok, refl, sym, ap, subst, ◌∙◌, inl}
use Rattle.std.specs.Result.{result_unwrap_or}
use Rattle.asc_outside.specs.Host.{HostState}
use Rattle.rv32_asm.specs.File.{assembled}
use Rattle.rv32_asm.specs.Generator.{generated_text, start}
use Rattle.ascend_words.specs.Grammar.{Pair}
use Rattle.ascend_top.specs.Gen.{count_in, gen_file, seed_in}
use Rattle.ascend_top.specs.Steps.{AllDone, Does, IsRefused, Loads, Refuses, where_named}
use Rattle.ascend_top.specs.declared.refusal.Refusal.{Refusal}
use Rattle.ascend_top.proofs.RunLaws.{named_done, named_then}

-- the file that the generator made is that of the words
pub made_file : (given : List Pair) (seed count : ℕ) (file : List ℕ) → seed ≡ seed_in given → count ≡ count_in given
    → assembled start (generated_text seed count) ≡ Ok file → file ≡ gen_file given
unfolding gen_file
made_file given seed count file s n e =
    sym (ap (λ answer. result_unwrap_or answer [])
    (ap (λ x. assembled start (generated_text x (count_in given))) (sym s)
    ∙ ap (λ x. assembled start (generated_text seed x)) (sym n) ∙ e))

module _ (o : Option (List ℕ)) (bytes file : List ℕ) (base to_base size to_size : ℕ) (old mid : HostState)
    (e : bytes ≡ file) (b : base ≡ to_base) (s : size ≡ to_size)
    (written : AllDone (where_named o bytes []) old mid)
  where
    -- it was written where a file is named for it, and loaded
    pub made_done : Does (Loads bytes base size) mid mid
        → AllDone (where_named o file (Loads file to_base to_size ∷ [])) old mid
    made_done does =
        named_done o file (Loads file to_base to_size ∷ []) old mid mid
        (subst (λ l. AllDone (where_named o l []) old mid) e written) (
          mid,
          subst (λ l. Does (Loads l to_base to_size) mid mid) e
              (subst (λ n. Does (Loads bytes n to_size) mid mid) b
              (subst (λ n. Does (Loads bytes base n) mid mid) s does)),
          refl,
        )

    -- it was written, and could not be loaded
    pub made_refused : (refusal : Refusal) → Refuses (Loads bytes base size) refusal mid mid
        → IsRefused (where_named o file (Loads file to_base to_size ∷ [])) refusal old mid
    made_refused refusal refuses =
        named_then o file (Loads file to_base to_size ∷ []) refusal old mid mid
        (subst (λ l. AllDone (where_named o l []) old mid) e written)
        (inl (subst (λ l. Refuses (Loads l to_base to_size) refusal mid mid) e
        (subst (λ n. Refuses (Loads bytes n to_size) refusal mid mid) b
        (subst (λ n. Refuses (Loads bytes base n) refusal mid mid) s refuses))))
