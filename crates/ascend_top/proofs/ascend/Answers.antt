use Rattle.std.proofs.Common.{◌≡◌, ◌⊎◌, ℕ, Result, Ok, Err, inl, inr, refl, subst}
use Rattle.ascend_words.specs.Grammar.{Read}
use Rattle.ascend_words.specs.declared.fault.WordFault.{WordFault}
use Rattle.ascend_words.specs.declared.fault.WordFault.TheVariants.{Usage as WrongWord, NoMemory as NoWords}
use Rattle.ascend_top.specs.Command.{CommandEnds, Tells}
use Rattle.ascend_top.specs.Made.{Made}
use Rattle.ascend_top.specs.Status.{status_of, status_of_refusal}
use Rattle.ascend_top.specs.declared.refusal.Refusal.{Refusal}
use Rattle.ascend_top.specs.declared.refusal.Refusal.TheVariants.{Usage, NoMemory}
use Rattle.ascend_top.specs.Lent.{lent_as}
use Rattle.ascend_top.proofs.EndLaws.{completes, lost_at_start, others_idle, refuses_first, tells_nothing}
use Rattle.ascend_top.proofs.EndLaws.{tells_no_text}
use Rattle.ascend_top.proofs.HeadlineLaws.{ends_carry}
use Rattle.ascend_top.proofs.PlayLaws.{completes_play}
use Rattle.ascend_top.proofs.ascend.Goals as goal

-- one answer isn't another
abbrev Answer : Type 0
Answer = Result Read WordFault

read_one : (words read : Read) → (◌≡◌ {A = Answer} (Ok words) (Ok read))
    ⊎ (◌≡◌ {A = Answer} (Ok words) (Err NoWords)) → words ≡ read
read_one words read (inl e) = cc
read_one words read (inr e) = absurd (let no : ⊥ = cc in no)

read_right : {P : Type 0} (words : Read) (word : ℕ) → (◌≡◌ {A = Answer} (Ok words) (Err (WrongWord word)))
    ⊎ (◌≡◌ {A = Answer} (Ok words) (Err NoWords)) → P
read_right words word (inl e) = absurd (let no : ⊥ = cc in no)
read_right words word (inr e) = absurd (let no : ⊥ = cc in no)

wrong_one : (a b : ℕ) → (◌≡◌ {A = Answer} (Err (WrongWord a)) (Err (WrongWord b)))
    ⊎ (◌≡◌ {A = Answer} (Err (WrongWord a)) (Err NoWords)) → a ≡ b
wrong_one a b (inl e) = cc
wrong_one a b (inr e) = absurd (let no : ⊥ = cc in no)

wrong_right : {P : Type 0} (a : ℕ) (read : Read) → (◌≡◌ {A = Answer} (Err (WrongWord a)) (Ok read))
    ⊎ (◌≡◌ {A = Answer} (Err (WrongWord a)) (Err NoWords)) → P
wrong_right a read (inl e) = absurd (let no : ⊥ = cc in no)
wrong_right a read (inr e) = absurd (let no : ⊥ = cc in no)

pub returns-in-Ok-clause-usage : goal.returns-in-Ok-clause-usage
returns-in-Ok-clause-usage g c word fault = read_right _ word (c.in-Ok.ensures.refused word fault)

pub returns-in-Ok-clause-command : goal.returns-in-Ok-clause-command
returns-in-Ok-clause-command g c read is =
    subst (λ r. (end : Result Made Refusal) × (c.finish.result ≡ status_of end)
    × CommandEnds r (lent_as (g.M.UntrustedMemory.state c.args.memory.now)
    (g.M.UntrustedMemory.state c.finish.new.memory) c.args.tap.now c.finish.new.tap) end
    (g.H.Host.state c.args.host.now) (g.H.Host.state c.finish.new.host))
    (read_one _ read (c.in-Ok.ensures.accepted read is)) c.finish.ensures

pub returns-in-Ok-clause-complete : goal.returns-in-Ok-clause-complete
returns-in-Ok-clause-complete g c read files is told right safe =
    let ends = returns-in-Ok-clause-command g c read is in
    completes read _ files c.finish.result (ends.0) _ _ (ends.1) (ends.2) told right safe

pub returns-in-Ok-clause-complete_play : goal.returns-in-Ok-clause-complete_play
returns-in-Ok-clause-complete_play g c read files is runs told right safe some sound room =
    completes_play read files _ c.finish.result _ _ runs
    (returns-in-Ok-clause-complete g c read files is told right safe) some sound room

pub returns-in-Err-Usage-clause-usage : goal.returns-in-Err-Usage-clause-usage
returns-in-Err-Usage-clause-usage g c word fault =
    let refused = rw c.in-Err-Usage.field-0-is at c.in-Err-Usage.ensures.refused in
    subst (λ n. (end : Refusal) × (c.refuse.result ≡ status_of_refusal end)
    × Tells (Usage n) end (g.H.Host.state c.args.host.now) (g.H.Host.state c.refuse.new.host))
    (wrong_one c.in-Err-Usage.word word (refused word fault)) c.refuse.ensures

pub returns-in-Err-Usage-clause-command : goal.returns-in-Err-Usage-clause-command
returns-in-Err-Usage-clause-command g c read is =
    let accepted = rw c.in-Err-Usage.field-0-is at c.in-Err-Usage.ensures.accepted in
    wrong_right c.in-Err-Usage.word read (accepted read is)

pub returns-in-Err-Usage-clause-complete : goal.returns-in-Err-Usage-clause-complete
returns-in-Err-Usage-clause-complete g c read files is told right safe =
    let accepted = rw c.in-Err-Usage.field-0-is at c.in-Err-Usage.ensures.accepted in
    wrong_right c.in-Err-Usage.word read (accepted read is)

pub returns-in-Err-Usage-clause-complete_play : goal.returns-in-Err-Usage-clause-complete_play
returns-in-Err-Usage-clause-complete_play g c read files is runs told right safe some sound room =
    let accepted = rw c.in-Err-Usage.field-0-is at c.in-Err-Usage.ensures.accepted in
    wrong_right c.in-Err-Usage.word read (accepted read is)

pub returns-in-Err-NoMemory-clause-complete_play : goal.returns-in-Err-NoMemory-clause-complete_play
returns-in-Err-NoMemory-clause-complete_play g c read files is runs told right safe some sound room = inl refl

pub returns-in-Err-NoMemory-clause-usage : goal.returns-in-Err-NoMemory-clause-usage
returns-in-Err-NoMemory-clause-usage g c word fault = (
  NoMemory,
  refl,
  tells_no_text word
      (g.H.Host.state c.args.host.now),
)

pub returns-in-Err-NoMemory-clause-command : goal.returns-in-Err-NoMemory-clause-command
returns-in-Err-NoMemory-clause-command g c read is =
    let state = g.H.Host.state c.args.host.now in
    let lost = lost_at_start read.command read.given state in
    (Err NoMemory, refl, (NoMemory, state, inl (record { memory = refl; tap = refl }, lost), tells_nothing state))

pub returns-in-Err-NoMemory-clause-complete : goal.returns-in-Err-NoMemory-clause-complete
returns-in-Err-NoMemory-clause-complete g c read files is told right safe = inl refl

pub returns-in-Ok-clause-refused : goal.returns-in-Ok-clause-refused
returns-in-Ok-clause-refused g c read files refusal is told of first safe =
    let ends = returns-in-Ok-clause-command g c read is in
    refuses_first read _ files refusal c.finish.result (ends.0) _ _ (ends.1) (ends.2) told of first safe

pub returns-in-Err-Usage-clause-refused : goal.returns-in-Err-Usage-clause-refused
returns-in-Err-Usage-clause-refused g c read files refusal is told of first safe =
    let accepted = rw c.in-Err-Usage.field-0-is at c.in-Err-Usage.ensures.accepted in
    wrong_right c.in-Err-Usage.word read (accepted read is)

pub returns-in-Err-NoMemory-clause-refused : goal.returns-in-Err-NoMemory-clause-refused
returns-in-Err-NoMemory-clause-refused g c read files refusal is told of first safe = inl refl

pub returns-in-Ok-clause-others : goal.returns-in-Ok-clause-others
returns-in-Ok-clause-others g c read is not_run not_gen =
    let ends = returns-in-Ok-clause-command g c read is in
    others_idle read _ (ends.0) _ _ (not_run, not_gen) (ends.2)

pub returns-in-Ok-clause-unread : goal.returns-in-Ok-clause-unread
returns-in-Ok-clause-unread g c word fault = read_right _ word (c.in-Ok.ensures.refused word fault)

pub returns-in-Ok-clause-headline : goal.returns-in-Ok-clause-headline
returns-in-Ok-clause-headline g c read is may =
    let ends = returns-in-Ok-clause-command g c read is in
    (ends.0, ends.1, ends.2, ends_carry read _ (ends.0) _ _ may (ends.2))

pub returns-in-Err-Usage-clause-headline : goal.returns-in-Err-Usage-clause-headline
returns-in-Err-Usage-clause-headline g c read is may =
    let accepted = rw c.in-Err-Usage.field-0-is at c.in-Err-Usage.ensures.accepted in
    wrong_right c.in-Err-Usage.word read (accepted read is)

pub returns-in-Err-NoMemory-clause-headline : goal.returns-in-Err-NoMemory-clause-headline
returns-in-Err-NoMemory-clause-headline g c read is may =
    let ends = returns-in-Err-NoMemory-clause-command g c read is in
    (ends.0, ends.1, ends.2, ends_carry read _ (ends.0) _ _ may (ends.2))
