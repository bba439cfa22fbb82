use Rattle.std.proofs.Common.{inl, inr, subst}
use Rattle.ascend_words.specs.declared.table.Name.TheVariants.{Seed, Words}
use Rattle.ascend_top.specs.Steps.{AKey, Does, Judges, JudgesNumber, Reads, Refuses}
use Rattle.ascend_top.specs.declared.refusal.Source.TheVariants.{Key as KeyFile}
use Rattle.ascend_top.proofs.commands.generated.prepare.Goals as goal

pub returns-in-Err-read_key-clause-refused : goal.returns-in-Err-read_key-clause-refused
returns-in-Err-read_key-clause-refused g c =
    let old = g.H.Host.state c.args.host.now in
    inr (
      old,
      subst (λ settings. Does (Judges settings) old old) c.settings.ensures (c.in-Ok.ensures.judged old),
      inr (
        old,
        subst (λ seed. Does (JudgesNumber Seed seed) old old) c.seed.ensures (c.in-Ok-judge_seed.ensures.judged old),
        inr (
          old,
          subst (λ count. Does (JudgesNumber Words count) old old) c.count.ensures
              (c.in-Ok-judge_count.ensures.judged old),
          inl (subst (λ name. Refuses (Reads KeyFile name AKey) c.in-Err-read_key.refusal old
              (g.H.Host.state c.read_key.new.host)) c.file_of-key.ensures c.in-Err-read_key.ensures.refused),
        ),
      ),
    )

pub returns-in-Err-make_program-clause-refused : goal.returns-in-Err-make_program-clause-refused
returns-in-Err-make_program-clause-refused g c =
    let old = g.H.Host.state c.args.host.now in
    let mid = g.H.Host.state c.read_key.new.host in
    inr (
      old,
      subst (λ settings. Does (Judges settings) old old) c.settings.ensures (c.in-Ok.ensures.judged old),
      inr (
        old,
        subst (λ seed. Does (JudgesNumber Seed seed) old old) c.seed.ensures (c.in-Ok-judge_seed.ensures.judged old),
        inr (
          old,
          subst (λ count. Does (JudgesNumber Words count) old old) c.count.ensures
              (c.in-Ok-judge_count.ensures.judged old),
          inr (
            mid,
            subst (λ name. Does (Reads KeyFile name AKey) old mid) c.file_of-key.ensures c.in-Ok-read_key.ensures.read,
            c.in-Err-make_program.ensures.refused,
          ),
        ),
      ),
    )
