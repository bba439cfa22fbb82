-- Laws of steps: what a host's answers make of each.
use Rattle.std.proofs.Common.{◌≡◌, ℕ, ◌≤◌, List, [], ◌∷◌, Option, Some, None, Err, IfSome, refl, sym, ap, subst}
use Rattle.std.proofs.Common.{◌∙◌, inl, inr, arith, append-nil}
use Rattle.std.specs.Prelude.{unwrap_or}
use Rattle.ascend_top.proofs.Shown.{shows_any, shows_file, shows_longer}
use Rattle.asc_base.specs.Settings.{AreAllowed, IsFirstFault as IsFirstSetting, config_of}
use Rattle.asc_base.specs.declared.settings.Setting.{Setting}
use Rattle.asc_base.specs.declared.settings.Settings.{Settings}
use Rattle.asc_outside.specs.Host.{HostCall, Reads as ReadsFile, Writes as WritesFile, Prints as PrintsText}
use Rattle.asc_outside.specs.Host.{HostState, Files, IsLonger, OthersStay, asked_after}
use Rattle.asc_outside.specs.Rose.{Rose}
use Rattle.asc_outside.specs.declared.host.HostFault.{HostFault}
use Rattle.asc_outside.specs.declared.host.HostFault.TheVariants.{Failed, TooLong as TooLongFile}
use Rattle.asc_outside.specs.declared.host.HostFault.TheVariants.{NoMemory as OutOfMemory}
use Rattle.bus_trace.specs.declared.fault.TraceKind.{TraceKind}
use Rattle.elf_loader.specs.Faults.{IsFaultless, IsFirstFault as IsFirstElfFault}
use Rattle.elf_loader.specs.declared.fault.ElfFault.{ElfFault}
use Rattle.ascend_top.specs.FlatRun.{bytes_in}
use Rattle.ascend_top.specs.Parts.{WasRead, unread, unwritten}
use Rattle.ascend_top.specs.Steps.{AsksMore, PrintsMore, Breaks, Keeps, Does, Refuses, Rule, Judges, JudgesNumber}
use Rattle.ascend_top.specs.Steps.{IsInRange, IsRefused, IsRight, IsWrong, Loads, Reads, Shows, Writes, Prints}
use Rattle.ascend_top.specs.Steps.{limit_of, where_named}
use Rattle.ascend_words.specs.declared.table.Name.{Name}
use Rattle.rv32_asm.specs.declared.fault.AsmKind.{AsmKind}
use Rattle.ascend_top.specs.declared.refusal.Refusal.{Refusal}
use Rattle.ascend_top.specs.declared.refusal.Refusal.TheVariants.{OutOfRange, Elf, KeyLength, NoMemory}
use Rattle.ascend_top.specs.declared.refusal.Refusal.TheVariants.{NumberOutOfRange, Assembler, Trace, Fails}
use Rattle.ascend_top.specs.declared.refusal.Source.{Source}

-- what holds of the value that is there
pub at_some : {A : Type 0} (P : A → Type 0) (o : Option A) (x : A) → IfSome o P → o ≡ Some x → P x
at_some P (Some y) x h e = let same : y ≡ x = cc in subst P same h
at_some P None x h e = absurd (let no : ⊥ = cc in no)

-- no call, and no text
pub asks_none : (old new : Option (List HostCall)) → new ≡ old → AsksMore old [] new
asks_none None new e = e
asks_none (Some all) new e = e ∙ ap Some (sym (append-nil all))

pub prints_none : (old new : Option (List ℕ)) → new ≡ old → PrintsMore old [] new
prints_none None new e = e
prints_none (Some all) new e = e ∙ ap Some (sym (append-nil all))

-- the settings were judged
pub judged : (settings : Settings) (state : HostState) → AreAllowed settings → Does (Judges settings) state state
judged settings state allowed = record {
  done = shows_any state.files _ (λ files. allowed);
  files = refl;
  printed = prints_none state.printed state.printed refl;
  later = omega arith;
  asked = asks_none state.asked state.asked refl;
}

pub misjudged : (settings : Settings) (setting : Setting) (state : HostState) → IsFirstSetting settings setting
    → Refuses (Judges settings) (OutOfRange setting) state state
misjudged settings setting state first = record {
  cause = shows_any state.files _ (λ files. first);
  fault = λ e. absurd (let no : ⊥ = cc in no);
  files = refl;
  printed = refl;
  later = omega arith;
  asked = asks_none state.asked state.asked refl;
}

-- the number of a name was judged
pub number_judged : (name : Name) (number : ℕ) (state : HostState) → IsInRange name number
    → Does (JudgesNumber name number) state state
number_judged name number state within = record {
  done = shows_any state.files _ (λ files. within);
  files = refl;
  printed = prints_none state.printed state.printed refl;
  later = omega arith;
  asked = asks_none state.asked state.asked refl;
}

pub number_misjudged : (name : Name) (number : ℕ) (state : HostState) → ¬ IsInRange name number
    → Refuses (JudgesNumber name number) (NumberOutOfRange name) state state
number_misjudged name number state beyond = record {
  cause = shows_any state.files _ (λ files. (refl, beyond));
  fault = λ e. absurd (let no : ⊥ = cc in no);
  files = refl;
  printed = refl;
  later = omega arith;
  asked = asks_none state.asked state.asked refl;
}

-- a file was loaded, or has a fault
pub loaded : (bytes : List ℕ) (base size : ℕ) (state : HostState) → IsFaultless base size bytes
    → Does (Loads bytes base size) state state
loaded bytes base size state faultless = record {
  done = shows_any state.files _ (λ files. faultless);
  files = refl;
  printed = prints_none state.printed state.printed refl;
  later = omega arith;
  asked = asks_none state.asked state.asked refl;
}

pub load_refused : (bytes : List ℕ) (base size : ℕ) (fault : ElfFault) (state : HostState)
    → IsFirstElfFault base size bytes fault → Refuses (Loads bytes base size) (Elf fault) state state
load_refused bytes base size fault state first = record {
  cause = shows_any state.files _ (λ files. first);
  fault = λ e. absurd (let no : ⊥ = cc in no);
  files = refl;
  printed = refl;
  later = omega arith;
  asked = asks_none state.asked state.asked refl;
}

pub load_lost : (bytes : List ℕ) (base size : ℕ) (state : HostState)
    → Refuses (Loads bytes base size) NoMemory state state
load_lost bytes base size state = record {
  cause = shows_any state.files _ (λ files. tt);
  fault = λ e. absurd (let no : ⊥ = cc in no);
  files = refl;
  printed = refl;
  later = omega arith;
  asked = inl refl;
}

others_same : (name : List ℕ) (told : Option Files) → OthersStay name told told
others_same name told = record {
  told = refl;
  others = λ before after b a other differs.
      let same : ◌≡◌ {A = Option Files} (Some before) (Some after) = sym b ∙ a in
      let one : before ≡ after = cc in
      ap (λ (files : Files). files other) (sym one);
}

-- a file that is written where one is named, and then loaded: there was no memory for it
pub made_lost : (o : Option (List ℕ)) (bytes loaded : List ℕ) (base size : ℕ) (state : HostState)
    → IsRefused (where_named o bytes (Loads loaded base size ∷ [])) NoMemory state state
made_lost None bytes loaded base size state = inl (load_lost loaded base size state)
made_lost (Some name) bytes loaded base size state = inl (record {
  cause = shows_any state.files _ (λ files. tt);
  fault = λ e. absurd (let no : ⊥ = cc in no);
  files = others_same name state.files;
  printed = refl;
  later = omega arith;
  asked = inl refl;
})

-- the read of a file was refused
pub read_refused : (T : Type 0) (source : Source) (name : List ℕ) (rule : Rule) (fault : HostFault)
    (old new : HostState)
    → (fault ≡ TooLongFile → IfSome old.files (λ files. IsLonger files name (limit_of source)))
    → (fault ≡ Failed → Rose old.faults new.faults)
    → old.faults ≤ new.faults → new.files ≡ old.files → new.printed ≡ old.printed
    → new.asked ≡ asked_after {T = T} old.asked (ReadsFile name) (Err fault)
    → Refuses (Reads source name rule) (unread source fault) old new
read_refused T source name rule Failed old new long cause later files printed asked = record {
  cause = shows_any old.files _ (λ files. tt);
  fault = λ e. cause refl;
  files = files;
  printed = printed;
  later = later;
  asked = asked;
}
read_refused T source name rule TooLongFile old new long cause later files printed asked = record {
  cause = shows_longer old.files name (limit_of source) _ (long refl) (λ files is. (refl, is));
  fault = λ e. absurd (let no : ⊥ = cc in no);
  files = files;
  printed = printed;
  later = later;
  asked = asked;
}
read_refused T source name rule OutOfMemory old new long cause later files printed asked = record {
  cause = shows_any old.files _ (λ files. tt);
  fault = λ e. absurd (let no : ⊥ = cc in no);
  files = files;
  printed = printed;
  later = later;
  asked = inl asked;
}

module _ (source : Source) (name bytes : List ℕ) (rule : Rule) (old new : HostState)
    (read : WasRead source name bytes old new) where
  -- the file was read, and its bytes keep the rule
  pub read_done : Keeps rule bytes → Does (Reads source name rule) old new
  read_done keeps = record {
    done = shows_file old.files name bytes (λ files. IsRight files source name rule) read.told (λ files is. record {
      bytes = bytes;
      is = is;
      within = read.within;
      keeps = keeps;
    });
    files = read.files;
    printed = read.printed ∙ prints_none old.printed old.printed refl;
    later = read.later;
    asked = read.asked;
  }

  -- there was no memory for it
  pub read_lost : Refuses (Reads source name rule) NoMemory old new
  read_lost = record {
    cause = shows_any old.files _ (λ files. tt);
    fault = λ e. absurd (let no : ⊥ = cc in no);
    files = read.files;
    printed = read.printed;
    later = read.later;
    asked = inr read.asked;
  }

  wrong : (refusal : Refusal) → Breaks rule bytes refusal
      → Shows old.files (λ files. IsWrong files source name rule refusal)
  wrong refusal breaks =
      shows_file old.files name bytes (λ files. IsWrong files source name rule refusal) read.told (λ files is. record {
        bytes = bytes;
        is = is;
        within = read.within;
        breaks = breaks;
      })

  -- its bytes break the rule
  pub key_short : (count : ℕ) → Breaks rule bytes (KeyLength count)
      → Refuses (Reads source name rule) (KeyLength count) old new
  key_short count breaks = record {
    cause = wrong (KeyLength count) breaks;
    fault = λ e. absurd (let no : ⊥ = cc in no);
    files = read.files;
    printed = read.printed;
    later = read.later;
    asked = read.asked;
  }

  pub elf_faulty : (fault : ElfFault) → Breaks rule bytes (Elf fault)
      → Refuses (Reads source name rule) (Elf fault) old new
  elf_faulty fault breaks = record {
    cause = wrong (Elf fault) breaks;
    fault = λ e. absurd (let no : ⊥ = cc in no);
    files = read.files;
    printed = read.printed;
    later = read.later;
    asked = read.asked;
  }

  pub text_faulty : (number : ℕ) (kind : AsmKind) → Breaks rule bytes (Assembler number kind)
      → Refuses (Reads source name rule) (Assembler number kind) old new
  text_faulty number kind breaks = record {
    cause = wrong (Assembler number kind) breaks;
    fault = λ e. absurd (let no : ⊥ = cc in no);
    files = read.files;
    printed = read.printed;
    later = read.later;
    asked = read.asked;
  }

  pub trace_faulty : (number : ℕ) (kind : TraceKind) → Breaks rule bytes (Trace number kind)
      → Refuses (Reads source name rule) (Trace number kind) old new
  trace_faulty number kind breaks = record {
    cause = wrong (Trace number kind) breaks;
    fault = λ e. absurd (let no : ⊥ = cc in no);
    files = read.files;
    printed = read.printed;
    later = read.later;
    asked = read.asked;
  }

  pub trace_fails : (number found wanted : ℕ) → Breaks rule bytes (Fails number found wanted)
      → Refuses (Reads source name rule) (Fails number found wanted) old new
  trace_fails number found wanted breaks = record {
    cause = wrong (Fails number found wanted) breaks;
    fault = λ e. absurd (let no : ⊥ = cc in no);
    files = read.files;
    printed = read.printed;
    later = read.later;
    asked = read.asked;
  }

-- the bytes of a file that was read
pub read_bytes : (source : Source) (name bytes : List ℕ) (old new : HostState) → WasRead source name bytes old new
    → Shows new.files (λ files. bytes ≡ bytes_in files name)
read_bytes source name bytes old new read =
    subst (λ told. Shows told (λ files. bytes ≡ bytes_in files name)) (sym read.files)
    (shows_file old.files name bytes (λ files. bytes ≡ bytes_in files name) read.told
    (λ files is. sym (ap (λ o. unwrap_or o []) is)))

-- a file was written, or its write refused
pub write_done : (name bytes : List ℕ) (old new : HostState) → IfSome new.files (λ files. files name ≡ Some bytes)
    → OthersStay name old.files new.files
    → old.faults ≤ new.faults → new.printed ≡ old.printed → AsksMore old.asked (WritesFile name ∷ []) new.asked
    → Does (Writes name bytes) old new
write_done name bytes old new written others later printed asked = record {
  done = shows_any old.files _ (λ files. tt);
  files = (others, written);
  printed = printed ∙ prints_none old.printed old.printed refl;
  later = later;
  asked = asked;
}

pub write_refused : (T : Type 0) (name bytes : List ℕ) (fault : HostFault) (old new : HostState)
    → (fault ≡ TooLongFile → ⊥)
    → (fault ≡ Failed → Rose old.faults new.faults) → OthersStay name old.files new.files → old.faults ≤ new.faults
    → new.printed ≡ old.printed
    → new.asked ≡ asked_after {T = T} old.asked (WritesFile name) (Err fault)
    → Refuses (Writes name bytes) (unwritten fault) old new
write_refused T name bytes Failed old new long cause others later printed asked = record {
  cause = shows_any old.files _ (λ files. tt);
  fault = λ e. cause refl;
  files = others;
  printed = printed;
  later = later;
  asked = asked;
}
write_refused T name bytes TooLongFile old new long cause others later printed asked = absurd (long refl)
write_refused T name bytes OutOfMemory old new long cause others later printed asked = record {
  cause = shows_any old.files _ (λ files. tt);
  fault = λ e. absurd (let no : ⊥ = cc in no);
  files = others;
  printed = printed;
  later = later;
  asked = inl asked;
}

-- a text was printed, or its print refused
pub print_done : (text : List ℕ) (old new : HostState) → PrintsMore old.printed text new.printed
    → old.faults ≤ new.faults → new.files ≡ old.files
    → AsksMore old.asked (PrintsText ∷ []) new.asked → Does (Prints text) old new
print_done text old new printed later files asked = record {
  done = shows_any old.files _ (λ files. tt);
  files = files;
  printed = printed;
  later = later;
  asked = asked;
}

pub print_refused : (T : Type 0) (text : List ℕ) (fault : HostFault) (old new : HostState) → (fault ≡ TooLongFile → ⊥)
    → (fault ≡ Failed → Rose old.faults new.faults) → old.faults ≤ new.faults → new.files ≡ old.files
    → new.asked ≡ asked_after {T = T} old.asked PrintsText (Err fault) → Refuses (Prints text) (unwritten fault) old new
print_refused T text Failed old new long cause later files asked = record {
  cause = shows_any old.files _ (λ files. tt);
  fault = λ e. cause refl;
  files = files;
  printed = tt;
  later = later;
  asked = asked;
}
print_refused T text TooLongFile old new long cause later files asked = absurd (long refl)
print_refused T text OutOfMemory old new long cause later files asked = record {
  cause = shows_any old.files _ (λ files. tt);
  fault = λ e. absurd (let no : ⊥ = cc in no);
  files = files;
  printed = tt;
  later = later;
  asked = inl asked;
}

-- there was no memory for a text
pub print_lost : (text : List ℕ) (state : HostState) → Refuses (Prints text) NoMemory state state
print_lost text state = record {
  cause = shows_any state.files _ (λ files. tt);
  fault = λ e. absurd (let no : ⊥ = cc in no);
  files = refl;
  printed = tt;
  later = omega arith;
  asked = inl refl;
}

-- the numbers of a configuration
pub config_numbers : (settings : Settings) → ((config_of settings).base ≡ settings.base)
    × ((config_of settings).size ≡ settings.size) × ((config_of settings).budget ≡ settings.budget)
unfolding config_of
config_numbers settings = (refl, refl, refl)
