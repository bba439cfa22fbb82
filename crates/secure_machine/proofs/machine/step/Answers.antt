use Rattle.std.proofs.Common.{◌≡◌, ◌*◌, ◌∙◌, Some, ap, sym}
use Rattle.asc_base.specs.declared.stop.Stop.{Stop}
use Rattle.fed_run.proofs.Left.{step_left}
use Rattle.secure_machine.proofs.Refining.{stop_forged, stop_unblamed, chain_forged, instruction_core}
use Rattle.secure_machine.proofs.Refining.{instruction_known, lines_in, spent_is, ForgedBy, SteppedBy}
use Rattle.request_plan.specs.Plan.{Ends, Stops, through}
use Rattle.rv32_core.specs.Machine.{Machine}
use Rattle.rv32_core.specs.declared.outcome.Done.{Done}
use Rattle.rv32_core.specs.StepPlan.{machine_of, step_plan}
use Rattle.data_cache.specs.Cached.{cache_access}
use Rattle.secure_machine.proofs.LineChains.{LinesStep, chain_goes, chain_breaks, spent_on}
use Rattle.secure_machine.proofs.FedChains.{instruction_fed, instruction_starved, spent_fed}
use Rattle.secure_machine.proofs.Playing.{instruction_in_play, instruction_stopped}
use Rattle.secure_machine.proofs.SpentChains.{chain_stop_spent, instruction_spends}
use Rattle.secure_machine.proofs.Marked.{unmarked, kept_stop, is_kept, stopped_with}
use Rattle.secure_machine.proofs.machine.step.Given as given
use Rattle.secure_machine.proofs.machine.step.Goals as goal

-- the plan of the instruction over the lines ended
ends : (g : given.Over) (c : goal.After-spend g)
    → Ends (LinesStep g.M.UntrustedMemory.state g.W.Watch.state g.L.LeafFn.leaf_of g.L.LeafFn.levels)
    (through (cache_access c.args.core.now.base) (step_plan (machine_of c.args.core.now c.args.files.now))
    c.args.cache.now) c.args.lines.now c.step_cached.new.store
    (c.step_cached.new.cache, (machine_of c.step_cached.new.core c.step_cached.new.files, c.in-Ok.done))
ends g c =
    unmarked g.M.UntrustedMemory.state g.W.Watch.state g.L.LeafFn.leaf_of g.L.LeafFn.levels
    (through (cache_access c.args.core.now.base) (step_plan (machine_of c.args.core.now c.args.files.now))
    c.args.cache.now) c.args.lines.now c.step_cached.new.store
    (c.step_cached.new.cache, (machine_of c.step_cached.new.core c.step_cached.new.files, c.in-Ok.done))
    c.in-Ok.ensures.ok

-- or it was stopped with the stop that they keep
stops : (g : given.Over) (c : goal.In-Err g) (stop : Stop) → c.step_cached.new.store.oram.now.stop ≡ Some stop
    → Stops (LinesStep g.M.UntrustedMemory.state g.W.Watch.state g.L.LeafFn.leaf_of g.L.LeafFn.levels)
    (through (cache_access c.args.core.now.base) (step_plan (machine_of c.args.core.now c.args.files.now))
    c.args.cache.now) c.args.lines.now c.step_cached.new.store stop
    (c.step_cached.new.cache, machine_of c.step_cached.new.core c.step_cached.new.files)
stops g c stop is =
    stopped_with g.M.UntrustedMemory.state g.W.Watch.state g.L.LeafFn.leaf_of g.L.LeafFn.levels
    (through (cache_access c.args.core.now.base) (step_plan (machine_of c.args.core.now c.args.files.now))
    c.args.cache.now) c.args.lines.now c.step_cached.new.store c.in-Err.field-0
    (c.step_cached.new.cache, machine_of c.step_cached.new.core c.step_cached.new.files) stop is c.in-Err.ensures.err

kept : (g : given.Over) (c : goal.In-Err g) → (stop : Stop) × (c.step_cached.new.store.oram.now.stop ≡ Some stop)
    × Stops (LinesStep g.M.UntrustedMemory.state g.W.Watch.state g.L.LeafFn.leaf_of g.L.LeafFn.levels)
    (through (cache_access c.args.core.now.base) (step_plan (machine_of c.args.core.now c.args.files.now))
    c.args.cache.now) c.args.lines.now c.step_cached.new.store stop
    (c.step_cached.new.cache, machine_of c.step_cached.new.core c.step_cached.new.files)
kept g c =
    kept_stop g.M.UntrustedMemory.state g.W.Watch.state g.L.LeafFn.leaf_of g.L.LeafFn.levels
    (through (cache_access c.args.core.now.base) (step_plan (machine_of c.args.core.now c.args.files.now))
    c.args.cache.now) c.args.lines.now c.step_cached.new.store c.in-Err.field-0
    (c.step_cached.new.cache, machine_of c.step_cached.new.core c.step_cached.new.files) c.in-Err.ensures.err

pub returns-in-Err-clause-stops : goal.returns-in-Err-clause-stops
returns-in-Err-clause-stops g c =
    is_kept g.M.UntrustedMemory.state g.W.Watch.state g.L.LeafFn.leaf_of g.L.LeafFn.levels
    (through (cache_access c.args.core.now.base) (step_plan (machine_of c.args.core.now c.args.files.now))
    c.args.cache.now) c.args.lines.now c.step_cached.new.store c.in-Err.field-0
    (c.step_cached.new.cache, machine_of c.step_cached.new.core c.step_cached.new.files) c.in-Err.ensures.err

pub returns-in-Err-clause-breaks : goal.returns-in-Err-clause-breaks
returns-in-Err-clause-breaks g c stop is =
    chain_breaks g.M.UntrustedMemory.state g.W.Watch.state g.L.LeafFn.leaf_of g.L.LeafFn.levels
    (through (cache_access c.args.core.now.base) (step_plan (machine_of c.args.core.now c.args.files.now))
    c.args.cache.now) c.args.lines.now c.step_cached.new.store stop
    (c.step_cached.new.cache, machine_of c.step_cached.new.core c.step_cached.new.files) c.requires.ready
    (stops g c stop is)

pub returns-clause-onwards : goal.returns-clause-onwards
returns-clause-onwards g c =
    spent_on g.M.UntrustedMemory.state g.W.Watch.state g.L.LeafFn.leaf_of g.L.LeafFn.levels c.args.lines.now
    c.step_cached.new.store c.spend.new.self
    (chain_goes g.M.UntrustedMemory.state g.W.Watch.state g.L.LeafFn.leaf_of g.L.LeafFn.levels
    (through (cache_access c.args.core.now.base) (step_plan (machine_of c.args.core.now c.args.files.now))
    c.args.cache.now) c.args.lines.now c.step_cached.new.store
    (c.step_cached.new.cache, (machine_of c.step_cached.new.core c.step_cached.new.files, c.in-Ok.done))
    c.requires.ready (ends g c))
    c.spend.ensures.same (sym c.spend.ensures.memory) (sym c.spend.ensures.tap) (sym c.spend.ensures.oram)
    (sym c.spend.ensures.fetches) c.spend.ensures.ready

pub returns-in-Err-clause-refines : goal.returns-in-Err-clause-refines
returns-in-Err-clause-refines g c memory lawful core known = let (stop, is, stops) = kept g c in (
  stop_forged g.M.UntrustedMemory.state g.W.Watch.state g.L.LeafFn.leaf_of g.L.LeafFn.levels
      (through (cache_access c.args.core.now.base) (step_plan (machine_of c.args.core.now c.args.files.now))
      c.args.cache.now) c.args.lines.now c.step_cached.new.store stop
      (c.step_cached.new.cache, machine_of c.step_cached.new.core c.step_cached.new.files) lawful c.requires.ready
      stops,
  step_left (LinesStep g.M.UntrustedMemory.state g.W.Watch.state g.L.LeafFn.leaf_of g.L.LeafFn.levels)
      c.args.core.now.base (machine_of c.args.core.now c.args.files.now) c.args.cache.now c.args.lines.now
      c.step_cached.new.store stop
      (c.step_cached.new.cache, machine_of c.step_cached.new.core c.step_cached.new.files) stops,
)

pub returns-clause-refines : goal.returns-clause-refines
returns-clause-refines g c memory lawful core known =
    let count = lines_in g.M.UntrustedMemory.state g.W.Watch.state g.L.LeafFn.leaf_of g.L.LeafFn.levels c.args.lines.now
    c.requires.ready in
    let end : Machine × Done = (machine_of c.step_cached.new.core c.step_cached.new.files, c.in-Ok.done) in
    spent_is g.M.UntrustedMemory.state g.W.Watch.state g.L.LeafFn.leaf_of g.L.LeafFn.levels
    (SteppedBy g.M.UntrustedMemory.state g.W.Watch.state g.L.LeafFn.leaf_of g.L.LeafFn.levels memory
    (machine_of c.args.core.now c.args.files.now) end c.step_cached.new.cache) c.step_cached.new.store
    c.spend.new.self c.spend.ensures.memory c.spend.ensures.tap c.spend.ensures.oram
    (instruction_known g.M.UntrustedMemory.state g.W.Watch.state g.L.LeafFn.leaf_of g.L.LeafFn.levels c.args.lines.now
    c.step_cached.new.store (machine_of c.args.core.now c.args.files.now) c.args.cache.now c.step_cached.new.cache
    memory end lawful core (c.requires.size ∙ ap (λ n. 64 * n) (sym count)) known (ends g c))

pub returns-clause-core : goal.returns-clause-core
returns-clause-core g c is =
    instruction_core g.M.UntrustedMemory.state g.W.Watch.state g.L.LeafFn.leaf_of g.L.LeafFn.levels c.args.lines.now
    c.step_cached.new.store (machine_of c.args.core.now c.args.files.now) c.args.cache.now c.step_cached.new.cache
    (machine_of c.step_cached.new.core c.step_cached.new.files, c.in-Ok.done) is (ends g c)

pub returns-in-Err-clause-forged : goal.returns-in-Err-clause-forged
returns-in-Err-clause-forged g c lawful = let (stop, is, stops) = kept g c in
    stop_forged g.M.UntrustedMemory.state g.W.Watch.state g.L.LeafFn.leaf_of g.L.LeafFn.levels
    (through (cache_access c.args.core.now.base) (step_plan (machine_of c.args.core.now c.args.files.now))
    c.args.cache.now) c.args.lines.now c.step_cached.new.store stop
    (c.step_cached.new.cache, machine_of c.step_cached.new.core c.step_cached.new.files) lawful c.requires.ready
    stops

pub returns-clause-forged : goal.returns-clause-forged
returns-clause-forged g c lawful forged =
    spent_is g.M.UntrustedMemory.state g.W.Watch.state g.L.LeafFn.leaf_of g.L.LeafFn.levels
    (ForgedBy g.M.UntrustedMemory.state g.W.Watch.state g.L.LeafFn.leaf_of g.L.LeafFn.levels) c.step_cached.new.store
    c.spend.new.self c.spend.ensures.memory c.spend.ensures.tap c.spend.ensures.oram
    (chain_forged g.M.UntrustedMemory.state g.W.Watch.state g.L.LeafFn.leaf_of g.L.LeafFn.levels
    (through (cache_access c.args.core.now.base) (step_plan (machine_of c.args.core.now c.args.files.now))
    c.args.cache.now) c.args.lines.now c.step_cached.new.store
    (c.step_cached.new.cache, (machine_of c.step_cached.new.core c.step_cached.new.files, c.in-Ok.done)) lawful
    (ends g c) forged)

pub returns-in-Err-clause-honest : goal.returns-in-Err-clause-honest
returns-in-Err-clause-honest g c memory lawful known stop is =
    stop_unblamed g.M.UntrustedMemory.state g.W.Watch.state g.L.LeafFn.leaf_of g.L.LeafFn.levels
    (through (cache_access c.args.core.now.base) (step_plan (machine_of c.args.core.now c.args.files.now))
    c.args.cache.now) c.args.lines.now c.step_cached.new.store stop
    (c.step_cached.new.cache, machine_of c.step_cached.new.core c.step_cached.new.files) c.args.cache.now memory lawful
    c.requires.ready known (stops g c stop is)

pub returns-in-Err-clause-fed : goal.returns-in-Err-clause-fed
returns-in-Err-clause-fed g c ways lists core stands = let (stop, is, stops) = kept g c in (
  instruction_starved g.M.UntrustedMemory.state g.W.Watch.state g.L.LeafFn.leaf_of g.L.LeafFn.levels ways
      (machine_of c.args.core.now c.args.files.now) c.args.lines.now c.step_cached.new.store c.args.cache.now lists
      stop (c.step_cached.new.cache, machine_of c.step_cached.new.core c.step_cached.new.files) core
      c.requires.size stands stops,
  step_left (LinesStep g.M.UntrustedMemory.state g.W.Watch.state g.L.LeafFn.leaf_of g.L.LeafFn.levels)
      c.args.core.now.base (machine_of c.args.core.now c.args.files.now) c.args.cache.now c.args.lines.now
      c.step_cached.new.store stop
      (c.step_cached.new.cache, machine_of c.step_cached.new.core c.step_cached.new.files) stops,
)

pub returns-clause-fed : goal.returns-clause-fed
returns-clause-fed g c ways lists core stands =
    let machine = machine_of c.args.core.now c.args.files.now in
    let next = machine_of c.step_cached.new.core c.step_cached.new.files in
    spent_fed g.W.Watch.state ways machine next lists c.args.lines.now c.step_cached.new.store c.spend.new.self
    c.step_cached.new.cache c.in-Ok.done c.spend.ensures.tap c.spend.ensures.same.count
    (instruction_fed g.M.UntrustedMemory.state g.W.Watch.state g.L.LeafFn.leaf_of g.L.LeafFn.levels ways machine
    c.args.lines.now c.step_cached.new.store c.args.cache.now c.step_cached.new.cache lists (next, c.in-Ok.done) core
    c.requires.size stands (ends g c))

pub returns-in-Err-clause-plays : goal.returns-in-Err-clause-plays
returns-in-Err-clause-plays g c config whole before left lawful calls is_config core early known stop is =
    instruction_stopped g.M.UntrustedMemory.state g.W.Watch.state g.L.LeafFn.leaf_of g.L.LeafFn.levels config
    whole before left (machine_of c.args.core.now c.args.files.now) c.args.cache.now c.args.lines.now
    c.step_cached.new.store stop
    (c.step_cached.new.cache, machine_of c.step_cached.new.core c.step_cached.new.files) lawful calls c.requires.ready
    core c.requires.size early known (stops g c stop is)

pub returns-clause-plays : goal.returns-clause-plays
returns-clause-plays g c config whole before left lawful calls is_config core early known =
    instruction_in_play g.M.UntrustedMemory.state g.W.Watch.state g.L.LeafFn.leaf_of g.L.LeafFn.levels config
    whole before left (machine_of c.args.core.now c.args.files.now) c.args.cache.now c.step_cached.new.cache
    (machine_of c.step_cached.new.core c.step_cached.new.files, c.in-Ok.done) c.args.lines.now
    c.step_cached.new.store c.spend.new.self lawful calls is_config c.requires.ready core c.requires.size early known
    (ends g c) (record {
      same = c.spend.ensures.same;
      memory = c.spend.ensures.memory;
      tap = c.spend.ensures.tap;
      oram = c.spend.ensures.oram;
      fetches = c.spend.ensures.fetches;
      clock = c.spend.ensures.spent;
    })

pub returns-in-Err-clause-spends : goal.returns-in-Err-clause-spends
returns-in-Err-clause-spends g c config levels costs ways lists core stands early known stop is =
    chain_stop_spent g.M.UntrustedMemory.state g.W.Watch.state g.L.LeafFn.leaf_of g.L.LeafFn.levels config levels
    costs (through (cache_access c.args.core.now.base) (step_plan (machine_of c.args.core.now c.args.files.now))
    c.args.cache.now) c.args.lines.now c.step_cached.new.store stop
    (c.step_cached.new.cache, machine_of c.step_cached.new.core c.step_cached.new.files) c.requires.ready known
    (stops g c stop is)

pub returns-clause-spends : goal.returns-clause-spends
returns-clause-spends g c config levels costs ways lists core stands early known =
    instruction_spends g.M.UntrustedMemory.state g.W.Watch.state g.L.LeafFn.leaf_of g.L.LeafFn.levels config
    levels costs ways (machine_of c.args.core.now c.args.files.now) c.args.lines.now c.step_cached.new.store
    c.spend.new.self c.args.cache.now c.step_cached.new.cache lists
    (machine_of c.step_cached.new.core c.step_cached.new.files, c.in-Ok.done) c.requires.ready core c.requires.size
    stands early known (ends g c) (record {
      same = c.spend.ensures.same;
      memory = c.spend.ensures.memory;
      tap = c.spend.ensures.tap;
      oram = c.spend.ensures.oram;
      fetches = c.spend.ensures.fetches;
      clock = c.spend.ensures.spent;
    })
