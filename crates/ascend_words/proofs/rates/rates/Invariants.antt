use denote.Text.{Utf8}
use denote.Shadow.{shadow}
use Rattle.ascend_words.proofs.RatesLaws.{Reading}
use Rattle.ascend_words.proofs.rates.rates.Given as goal

-- so many parts were read
abbrev pub invariant-loop : goal.invariant-loop
invariant-loop l = record {
  text : shadow (Utf8 l.rest);
  reading : Reading l.text l.found l.rest l.counter;
}
