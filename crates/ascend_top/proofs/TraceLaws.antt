-- The trace of a log that is scheduled by a configuration is in the ranges of traces, where its end comes less than a
-- slot's cycles after the time of the settings, and its leaves are those of the tree.
use Rattle.std.proofs.Common.{◌≡◌, ℕ, zero, suc, ◌+◌, ◌*◌, ◌^◌, ◌<◌, ◌≤◌, Bool, true, false, cond, List, [], ◌∷◌}
use Rattle.std.proofs.Common.{length, take, map, sym, ap, subst, ◌∙◌, arith}
use Rattle.std.specs.Prelude.{nat_lt, zip, fold, max, All}
use Rattle.std.specs.List.{AllByRecursion, filter}
use Rattle.std.specs.List.Sorted.{IsStrictlyIncreasing}
use Rattle.std.proofs.lemmas.Bool.Decides.{nat_tests}
use Rattle.std.proofs.lemmas.List.{take_all}
use Rattle.std.proofs.lemmas.List.Elements.{filter_passes}
use Rattle.asc_base.specs.Settings.{IsConfig, IsFromTo}
use Rattle.asc_base.specs.TreeShape.{olat_of}
use Rattle.asc_base.specs.declared.settings.Config.{Config}
use Rattle.asc_base.proofs.RateLists.{power_count-le}
use Rattle.asc_base.proofs.ShapeFacts.{shape_layered}
use Rattle.bus_watch.specs.declared.log.Move.{Move}
use Rattle.bus_watch.specs.Log.{LogLists}
use Rattle.bus_watch.specs.Path.{slot_moves}
use Rattle.bus_schedule.specs.Scheduled.{IsScheduled, log_code}
use Rattle.bus_schedule.specs.Shown.{leaves_of, starts_of}
use Rattle.bus_schedule.specs.Timetable.{Public, public_of, count_of, starts as starts_up_to, slots_within, timetable}
use Rattle.bus_schedule.proofs.PublicParts.{count-power, first-among}
use Rattle.bus_schedule.proofs.SlotMoves.{length-slot, slot-begun}
use Rattle.bus_trace.specs.Grammar.{IsHeader, IsSeen, IsTrace}
use Rattle.bus_trace.specs.OfLog.{seen_of, seen_in, trace_of}
use Rattle.bus_trace.specs.declared.trace.Seen.{Seen}
use Rattle.trace_checker.specs.Checker.{moves_by, shown, slot_by}
use Rattle.trace_checker.proofs.OfLog.{scheduled_fits}
use Rattle.secure_machine.specs.Run.{DrawsLeaves}

-- the header of a configuration
module _ (config : Config) (is : IsConfig config) where
  same_rates : take (count_of (public_of config)) (public_of config).rates ≡ (public_of config).rates
  same_rates = take_all (count_of (public_of config)) (public_of config).rates (omega arith)

  pub header_is : IsHeader (public_of config)
  header_is =
      let layered = shape_layered config.shape is.is_shape in
      record {
        levels = (layered.levels_from, omega (arith, layered.levels_to));
        rates = record {
          power = count-power config is;
          rise = subst IsStrictlyIncreasing (sym same_rates) is.rates.rise;
          bounds = subst (All (IsFromTo 64 1048576)) (sym same_rates) is.rates.bounds;
        };
        first = first-among config is;
        epoch = subst (λ l. IsFromTo (olat_of config.shape.levels + fold max 0 l) 268435456 config.epoch)
            (sym same_rates) is.epoch;
        leak = is.leak;
      }

-- a filter keeps no more
few_kept : {X : Type 0} (test : X → Bool) (xs : List X) → length (filter test xs) ≤ length xs
few_kept test [] = omega arith
few_kept test (x ∷ xs) = go (test x) (few_kept test xs)
  where
    go : (b : Bool) → length (filter test xs) ≤ length xs
        → length (cond b (x ∷ filter test xs) (filter test xs)) ≤ suc (length xs)
    go true h = omega arith
    go false h = omega arith

moves_few : (p : Public) (end start : ℕ) → start < end → IsFromTo 1 (2 * (p.levels + 1)) (moves_by p end start)
moves_few p end start before =
    let some = (slot-begun p.levels start 0 end).1 before in
    let kept = few_kept (λ (m : Move). nat_lt m.time end) (slot_moves p.levels start 0) in
    (omega (arith, some), omega (arith, kept, length-slot p.levels start 0))

-- the number of the first, and the others
abbrev first_number : List (ℕ × ℕ) → ℕ
first_number [] = 0
first_number ((start, number) ∷ slots) = number

abbrev behind : List (ℕ × ℕ) → List (ℕ × ℕ)
behind [] = []
behind (slot ∷ slots) = slots

-- each slot is in the ranges, where it starts before an end that is, and has a leaf of the tree
module _ (p : Public) (end : ℕ) (short : end ≤ 536870912) (moves : List Move) where
  seen_are : (starts leaves : List ℕ) → AllByRecursion (λ start. start < end) starts
      → AllByRecursion (λ leaf. leaf < 2 ^ p.levels) leaves
      → map (slot_by p end) starts ≡ shown (map (seen_of p.levels moves) (zip starts leaves))
      → AllByRecursion (IsSeen p.levels) (map (seen_of p.levels moves) (zip starts leaves))
  seen_are [] leaves early below e = tt
  seen_are (start ∷ starts) [] early below e = tt
  seen_are (start ∷ starts) (leaf ∷ leaves) early below e =
      let number : moves_by p end start ≡ (seen_of p.levels moves (start, leaf)).moves = ap first_number e in
      let seen : List Seen = map (seen_of p.levels moves) (zip starts leaves) in
      let rest : map (slot_by p end) starts ≡ shown seen = ap behind e in (
        record {
          start = omega (arith, early.0, short);
          leaf = below.0;
          moves = subst (IsFromTo 1 (2 * (p.levels + 1))) number (moves_few p end start early.0);
        },
        seen_are starts leaves early.1 below.1 rest,
      )

to_each : {X : Type 0} (P : X → Type 0) (xs : List X) → All P xs → AllByRecursion P xs
to_each P [] all = tt
to_each P (x ∷ xs) all = (all 0 x (omega arith), to_each P xs (λ k d inside. all (suc k) d (omega arith)))

of_each : {X : Type 0} (P : X → Type 0) (xs : List X) → AllByRecursion P xs → All P xs
of_each P [] all k d inside = absurd (omega arith)
of_each P (x ∷ xs) all zero d inside = all.0
of_each P (x ∷ xs) all (suc k) d inside = of_each P xs all.1 k d (omega arith)

weaker_each : {X : Type 0} (P Q : X → Type 0) (xs : List X) → ((x : X) → P x → Q x) → AllByRecursion P xs
    → AllByRecursion Q xs
weaker_each P Q [] f all = tt
weaker_each P Q (x ∷ xs) f all = (f x all.0, weaker_each P Q xs f all.1)

below_end : (start end : ℕ) → nat_lt start end ≡ true → start < end
below_end start end e = grind (arith, nat_tests, e)

early_starts : (p : Public) (code end : ℕ) → AllByRecursion (λ start. start < end) (timetable p code end)
unfolding timetable
early_starts p code end =
    weaker_each (λ start. nat_lt start end ≡ true) (λ start. start < end) _ (λ start e. below_end start end e)
    (to_each _ _ (filter_passes (λ start. nat_lt start end) (starts_up_to p code (slots_within p end))))

pub ranges_are : (config : Config) (log : LogLists) (end : ℕ) → IsConfig config
    → IsScheduled (public_of config) end log → end < config.time + olat_of config.shape.levels
    → DrawsLeaves config log → IsTrace (trace_of (public_of config) log end)
ranges_are config log end is scheduled in_time below =
    let p = public_of config in
    let few = (shape_layered config.shape is.is_shape).levels_to in
    let short : end ≤ 536870912 = omega (arith, in_time, is.time.1, few) in
    let code = log_code p log in
    let fits = scheduled_fits p end log scheduled in
    record {
      header = header_is config is;
      accesses = of_each (IsSeen p.levels) (seen_in p.levels log)
          (seen_are p end short log.moves (starts_of log.events) (leaves_of log.events)
          (subst (AllByRecursion (λ start. start < end)) (sym scheduled.starts) (early_starts p code end))
          (to_each (λ leaf. leaf < 2 ^ p.levels) (leaves_of log.events) below)
          (ap (map (slot_by p end)) scheduled.starts ∙ fits.all));
      end = short;
    }

-- each slot has its leaf
pub drawn_are : (p : Public) (log : LogLists) (end : ℕ) → IsScheduled p end log
    → length (starts_of log.events) ≤ length (leaves_of log.events)
drawn_are p log end scheduled = omega (arith, ap length scheduled.starts, scheduled.leaves)

pub levels_few : (config : Config) → IsConfig config → (1 ≤ config.shape.levels) × (config.shape.levels ≤ 20)
levels_few config is = (header_is config is).levels

pub rates_few : (config : Config) → IsConfig config → config.rates.count ≤ 16
rates_few config is = (power_count-le config.rates.count is.rates.power).1
