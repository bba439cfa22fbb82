use Rattle.bus_watch.proofs.MadeLaws.{made_then, made_short}
use Rattle.bus_watch.proofs.laws.runs_join.Goals as goal

pub returns-clause-joined : goal.returns-clause-joined
returns-clause-joined c = λ end first second events more m m2 m3 t t2 t3 one two. made_then one two

pub returns-clause-tied : goal.returns-clause-tied
returns-clause-tied c = λ end first second events more start m m2 m3 t t2 t3 buckets tied one two.
    two.tied start buckets (one.tied start buckets tied)

pub returns-clause-short : goal.returns-clause-short
returns-clause-short c = λ moves events m m2 t t2 made. made_short made
