-- The lines of an encrypted memory with a clock, and what is asked of them as steps of one relation.
use Rattle.std.specs.Prelude.{◌≡◌, ◌+◌, ◌<◌, ◌≤◌, ℕ, List, [], None, Some, Result, Ok, Err, length}
use Rattle.std.specs.List.{count_by}
use Rattle.asc_base.specs.declared.stop.Stop.{Stop}
use Rattle.data_cache.specs.Lines.{LineRequest, Fetch, Store, IsLine, IsLineAnswer}
use Rattle.oram_contents.specs.Entries.{Keys}
use Rattle.rate_enforcer.specs.Counts.{is_answered}
use Rattle.oram_frontend.specs.Oram.{OramState, OramStep, CanServe, Fetch as OramFetch, Store as OramStore}

-- an encrypted memory, the clock, and how many fetches were answered
pub record TimedState : Type 0 where
  pub oram : OramState
  pub clock : ℕ
  pub fetches : ℕ

-- an encrypted memory that serves: it hasn't stopped, and its port stands between two slots
pub record Serving (levels : ℕ) (s : OramState) : Type 0 where
  pub going : s.stop ≡ None
  pub serves : CanServe s.front s.port.clock s.port.tree levels s.port.memory s.port.tap

-- It serves; the last slot ended at the clock or before; there are so many lines; and each fetch that was answered took
-- a slot.
pub record CanAsk (levels count : ℕ) (s : TimedState) : Type 0 where
  pub serving : Serving levels s.oram
  pub last : s.oram.port.clock.last ≤ s.clock
  pub lines : s.oram.port.clock.config.shape.lines ≡ count
  pub counted : s.fetches ≤ s.oram.port.clock.real

-- As many fetches were answered as the log notes answered lines.
abbrev pub AreNoted : TimedState → Type 0
AreNoted s = s.fetches ≡ count_by is_answered s.oram.port.tap.log.events

-- if that was so, it still is
abbrev pub KeepsNoted : TimedState → TimedState → Type 0
KeepsNoted old new = AreNoted old → AreNoted new

-- A line that there is is asked for at the clock, which becomes the end of the last slot that it took. A stop leaves
-- the clock.
module _ (keys : Keys) (levels count : ℕ) where
  abbrev pub TimedStep : TimedState → LineRequest → Result (List ℕ) Stop → TimedState → Type 0
  TimedStep old (Fetch line) (Ok bytes) new =
      OramStep keys levels old.oram (OramFetch old.clock line)
      (Ok (record { line = Some (record { 0 = bytes }); end = new.clock })) new.oram
      × (new.fetches ≡ old.fetches + 1) × IsLine bytes × CanAsk levels count new × (line < count)
  TimedStep old (Fetch line) (Err stop) new =
      OramStep keys levels old.oram (OramFetch old.clock line) (Err stop) new.oram
      × (new.fetches ≡ old.fetches) × (new.clock ≡ old.clock) × (line < count)
  TimedStep old (Store line value) (Ok bytes) new =
      OramStep keys levels old.oram (OramStore old.clock line (record { 0 = value }))
      (Ok (record { line = None; end = new.clock })) new.oram
      × (new.fetches ≡ old.fetches) × (bytes ≡ []) × CanAsk levels count new × (line < count) × (length value ≡ 64)
  TimedStep old (Store line value) (Err stop) new =
      OramStep keys levels old.oram (OramStore old.clock line (record { 0 = value })) (Err stop) new.oram
      × (new.fetches ≡ old.fetches) × (new.clock ≡ old.clock) × (line < count) × (length value ≡ 64)

-- a fetch answers a line, and a store nothing
pub answers_lines : (keys : Keys) (levels count : ℕ) (old new : TimedState) (request : LineRequest) (bytes : List ℕ)
    → TimedStep keys levels count old request (Ok bytes) new → IsLineAnswer request bytes
answers_lines keys levels count old new (Fetch line) bytes h = h.2
answers_lines keys levels count old new (Store line value) bytes h = h.2

-- after an answer it serves
pub answers_serve : (keys : Keys) (levels count : ℕ) (old new : TimedState) (request : LineRequest) (bytes : List ℕ)
    → TimedStep keys levels count old request (Ok bytes) new → CanAsk levels count new
answers_serve keys levels count old new (Fetch line) bytes h = h.3
answers_serve keys levels count old new (Store line value) bytes h = h.3
