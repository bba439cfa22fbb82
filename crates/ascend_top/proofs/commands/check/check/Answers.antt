use Rattle.std.proofs.Common.{inl, inr, refl, subst, ◌∙◌}
use Rattle.ascend_top.specs.FlatRun.{bytes_in}
use Rattle.ascend_top.specs.Steps.{ATrace, Does, IsChecked, Prints, Reads, Refuses, Shows}
use Rattle.ascend_top.specs.declared.refusal.Source.TheVariants.{Trace as TraceFile}
use Rattle.trace_checker.specs.declared.verdict.Verdict.TheVariants.{Holds}
use Rattle.ascend_top.proofs.commands.check.check.Goals as goal

pub returns : goal.returns
returns g c =
    let old = g.H.Host.state c.args.host.now in
    let mid = g.H.Host.state c.read_trace.new.host in
    let new = g.H.Host.state c.print.new.host in
    inr (
      mid,
      (
        mid,
        subst (λ name. Does (Reads TraceFile name ATrace) old mid) c.file_of-trace.ensures
            c.in-Ok.ensures.read,
        refl,
      ),
      inr (
        c.in-Ok.held,
        subst (λ name. Shows mid.files (λ files. IsChecked (bytes_in files name)
            (Holds c.in-Ok.held.code c.in-Ok.held.bits))) c.file_of-trace.ensures c.in-Ok.ensures.held,
        inl (subst (λ text. Refuses (Prints text) c.in-Err-print.refusal mid new)
            (c.as_bytes.ensures.value ∙ c.in-Ok-held_text.ensures) c.in-Err-print.ensures.refused),
      ),
    )

pub returns-in-Err-held_text : goal.returns-in-Err-held_text
returns-in-Err-held_text g c =
    let old = g.H.Host.state c.args.host.now in
    let mid = g.H.Host.state c.read_trace.new.host in
    inr (
      mid,
      (
        mid,
        subst (λ name. Does (Reads TraceFile name ATrace) old mid) c.file_of-trace.ensures
            c.in-Ok.ensures.read,
        refl,
      ),
      inl (refl, refl),
    )

pub returns-in-Ok-print : goal.returns-in-Ok-print
returns-in-Ok-print g c =
    let old = g.H.Host.state c.args.host.now in
    let mid = g.H.Host.state c.read_trace.new.host in
    let new = g.H.Host.state c.print.new.host in (
      mid,
      (
        mid,
        subst (λ name. Does (Reads TraceFile name ATrace) old mid) c.file_of-trace.ensures
            c.in-Ok.ensures.read,
        refl,
      ),
      subst (λ name. Shows mid.files (λ files. IsChecked (bytes_in files name)
          (Holds c.in-Ok.held.code c.in-Ok.held.bits))) c.file_of-trace.ensures c.in-Ok.ensures.held,
      (
        new,
        subst (λ text. Does (Prints text) mid new) (c.as_bytes.ensures.value ∙ c.in-Ok-held_text.ensures)
            c.in-Ok-print.ensures.printed,
        refl,
      ),
    )
