use Rattle.std.proofs.Common.{◌⊎◌, ◌*◌, ◌∙◌, ℕ, List, sym, ap, subst, arith}
use Rattle.rv32_core.specs.Access.{spliced}
use Rattle.secure_machine.specs.Refines.{Knows}
use Rattle.secure_machine.proofs.Refining.{stop_forged, stop_unblamed, line_known, lines_in, spent_is, ForgedBy}
use Rattle.secure_machine.proofs.Refining.{StandBy}
use Rattle.request_plan.specs.Plan.{Ends, Stops}
use Rattle.data_cache.specs.Contents.{write_line_plan}
use Rattle.secure_machine.proofs.LineChains.{LinesStep, chain_goes, chain_breaks, spent_on}
use Rattle.data_cache.specs.Cached.{StandsAs}
use Rattle.data_cache.specs.CacheLists.{sets_after}
use Rattle.rv32_core.specs.LineList.{WholeWrite}
use Rattle.secure_machine.specs.Answered.{answered_lines}
use Rattle.secure_machine.specs.Fed.{over_image}
use Rattle.secure_machine.proofs.FedChains.{line_fed, line_fed_stop}
use Rattle.secure_machine.proofs.Playing.{line_in_play, line_stopped}
use Rattle.secure_machine.proofs.SpentChains.{chain_spends, chain_stop_spent}
use Rattle.secure_machine.proofs.Marked.{unmarked, is_kept, stopped_with}
use Rattle.secure_machine.proofs.machine.load_line.Given as given
use Rattle.secure_machine.proofs.machine.load_line.Goals as goal

-- the plan of the line over the lines ended, or was stopped with what they keep
ends : (g : given.Over) (c : goal.After-spend g)
    → Ends (LinesStep g.M.UntrustedMemory.state g.W.Watch.state g.L.LeafFn.leaf_of g.L.LeafFn.levels)
    (write_line_plan c.args.cache.now c.args.line c.line_of.result) c.args.lines.now c.write_line.new.store
    c.write_line.new.self
ends g c =
    unmarked g.M.UntrustedMemory.state g.W.Watch.state g.L.LeafFn.leaf_of g.L.LeafFn.levels
    (write_line_plan c.args.cache.now c.args.line c.line_of.result) c.args.lines.now c.write_line.new.store
    c.write_line.new.self c.in-Ok.ensures.ok

stops : (g : given.Over) (c : goal.After-stopped g)
    → Stops (LinesStep g.M.UntrustedMemory.state g.W.Watch.state g.L.LeafFn.leaf_of g.L.LeafFn.levels)
    (write_line_plan c.args.cache.now c.args.line c.line_of.result) c.args.lines.now c.write_line.new.store
    c.stopped.result c.write_line.new.self
stops g c =
    stopped_with g.M.UntrustedMemory.state g.W.Watch.state g.L.LeafFn.leaf_of g.L.LeafFn.levels
    (write_line_plan c.args.cache.now c.args.line c.line_of.result) c.args.lines.now c.write_line.new.store
    c.in-Err.field-0 c.write_line.new.self c.stopped.result c.stopped.ensures c.in-Err.ensures.err

pub stopped-requires : goal.stopped-requires
stopped-requires g c =
    is_kept g.M.UntrustedMemory.state g.W.Watch.state g.L.LeafFn.leaf_of g.L.LeafFn.levels
    (write_line_plan c.args.cache.now c.args.line c.line_of.result) c.args.lines.now c.write_line.new.store
    c.in-Err.field-0 c.write_line.new.self c.in-Err.ensures.err

pub returns-in-Err-clause-breaks : goal.returns-in-Err-clause-breaks
returns-in-Err-clause-breaks g c =
    chain_breaks g.M.UntrustedMemory.state g.W.Watch.state g.L.LeafFn.leaf_of g.L.LeafFn.levels
    (write_line_plan c.args.cache.now c.args.line c.line_of.result) c.args.lines.now c.write_line.new.store
    c.stopped.result c.write_line.new.self c.requires.ready (stops g c)

pub returns-clause-onwards : goal.returns-clause-onwards
returns-clause-onwards g c =
    spent_on g.M.UntrustedMemory.state g.W.Watch.state g.L.LeafFn.leaf_of g.L.LeafFn.levels c.args.lines.now
    c.write_line.new.store c.spend.new.self
    (chain_goes g.M.UntrustedMemory.state g.W.Watch.state g.L.LeafFn.leaf_of g.L.LeafFn.levels
    (write_line_plan c.args.cache.now c.args.line c.line_of.result) c.args.lines.now c.write_line.new.store
    c.write_line.new.self c.requires.ready (ends g c))
    c.spend.ensures.same (sym c.spend.ensures.memory) (sym c.spend.ensures.tap) (sym c.spend.ensures.oram)
    (sym c.spend.ensures.fetches) c.spend.ensures.ready

pub returns-in-Err-clause-refines : goal.returns-in-Err-clause-refines
returns-in-Err-clause-refines g c memory lawful known =
    stop_forged g.M.UntrustedMemory.state g.W.Watch.state g.L.LeafFn.leaf_of g.L.LeafFn.levels
    (write_line_plan c.args.cache.now c.args.line c.line_of.result) c.args.lines.now c.write_line.new.store
    c.stopped.result c.write_line.new.self lawful c.requires.ready (stops g c)

pub returns-clause-refines : goal.returns-clause-refines
returns-clause-refines g c memory lawful known =
    let below = lines_in g.M.UntrustedMemory.state g.W.Watch.state g.L.LeafFn.leaf_of g.L.LeafFn.levels c.args.lines.now
    c.requires.ready in
    let after = line_known g.M.UntrustedMemory.state g.W.Watch.state g.L.LeafFn.leaf_of g.L.LeafFn.levels
    c.args.lines.now c.write_line.new.store c.args.cache.now c.write_line.new.self memory c.args.line c.line_of.result
    lawful (omega (arith, below, c.requires.line)) c.line_of.ensures.whole known (ends g c) in
    subst (λ (bytes : List ℕ). Knows g.M.UntrustedMemory.state g.W.Watch.state g.L.LeafFn.leaf_of g.L.LeafFn.levels
    c.write_line.new.self (spliced memory (64 * c.args.line) bytes) c.spend.new.self) c.line_of.ensures.bytes
    (spent_is g.M.UntrustedMemory.state g.W.Watch.state g.L.LeafFn.leaf_of g.L.LeafFn.levels
    (λ o m w. ForgedBy g.M.UntrustedMemory.state g.W.Watch.state g.L.LeafFn.leaf_of g.L.LeafFn.levels o m w
    ⊎ StandBy g.M.UntrustedMemory.state g.W.Watch.state g.L.LeafFn.leaf_of g.L.LeafFn.levels c.write_line.new.self
    (spliced memory (64 * c.args.line) c.line_of.result.0) o m w) c.write_line.new.store c.spend.new.self
    c.spend.ensures.memory c.spend.ensures.tap c.spend.ensures.oram after)

pub returns-in-Err-clause-honest : goal.returns-in-Err-clause-honest
returns-in-Err-clause-honest g c memory lawful known =
    stop_unblamed g.M.UntrustedMemory.state g.W.Watch.state g.L.LeafFn.leaf_of g.L.LeafFn.levels
    (write_line_plan c.args.cache.now c.args.line c.line_of.result) c.args.lines.now c.write_line.new.store
    c.stopped.result c.write_line.new.self c.args.cache.now memory lawful c.requires.ready known (stops g c)

pub returns-in-Err-clause-fed : goal.returns-in-Err-clause-fed
returns-in-Err-clause-fed g c ways sets stands = (
  line_fed_stop g.M.UntrustedMemory.state g.W.Watch.state g.L.LeafFn.leaf_of g.L.LeafFn.levels ways c.args.line
      c.args.image.now.bytes.items c.line_of.result c.args.lines.now c.write_line.new.store c.args.cache.now
      c.write_line.new.self sets c.stopped.result c.requires.line c.line_of.ensures.bytes stands (stops g c),
  tt,
)

pub returns-clause-fed : goal.returns-clause-fed
returns-clause-fed g c ways sets stands =
    let (none, after) = line_fed g.M.UntrustedMemory.state g.W.Watch.state g.L.LeafFn.leaf_of g.L.LeafFn.levels ways
    c.args.line c.args.image.now.bytes.items c.line_of.result c.args.lines.now c.write_line.new.store c.args.cache.now
    c.write_line.new.self sets c.requires.line c.line_of.ensures.bytes stands (ends g c) in (
      ap (λ w. answered_lines (g.W.Watch.state w).log.events) c.spend.ensures.tap ∙ none,
      subst (λ n. StandsAs n ways c.write_line.new.self (over_image c.args.image.now
          (sets_after ways sets (record { line = c.args.line; kind = WholeWrite })))) (sym c.spend.ensures.same.count)
          after,
    )

pub returns-in-Err-clause-plays : goal.returns-in-Err-clause-plays
returns-in-Err-clause-plays g c config whole machine marked limit lawful calls far small known =
    line_stopped g.M.UntrustedMemory.state g.W.Watch.state g.L.LeafFn.leaf_of g.L.LeafFn.levels config whole
    limit c.args.line c.args.image.now.bytes.items machine marked c.line_of.result c.args.cache.now
    c.write_line.new.self c.args.lines.now c.write_line.new.store c.stopped.result lawful calls c.requires.ready
    c.requires.line c.line_of.ensures.whole known (stops g c)

pub returns-clause-plays : goal.returns-clause-plays
returns-clause-plays g c config whole machine marked limit lawful calls far small known =
    line_in_play g.M.UntrustedMemory.state g.W.Watch.state g.L.LeafFn.leaf_of g.L.LeafFn.levels config whole
    limit c.args.line c.args.image.now.bytes.items machine marked c.line_of.result c.args.cache.now
    c.write_line.new.self c.args.lines.now c.write_line.new.store c.spend.new.self lawful calls c.requires.ready
    c.requires.line c.line_of.ensures.whole c.line_of.ensures.bytes far small known (ends g c) (record {
      same = c.spend.ensures.same;
      memory = c.spend.ensures.memory;
      tap = c.spend.ensures.tap;
      oram = c.spend.ensures.oram;
      fetches = c.spend.ensures.fetches;
      clock = c.spend.ensures.spent;
    })

pub returns-in-Err-clause-spends : goal.returns-in-Err-clause-spends
returns-in-Err-clause-spends g c config levels costs limit far small low known =
    chain_stop_spent g.M.UntrustedMemory.state g.W.Watch.state g.L.LeafFn.leaf_of g.L.LeafFn.levels config levels
    costs (write_line_plan c.args.cache.now c.args.line c.line_of.result) c.args.lines.now c.write_line.new.store
    c.stopped.result c.write_line.new.self c.requires.ready known (stops g c)

pub returns-clause-spends : goal.returns-clause-spends
returns-clause-spends g c config levels costs limit far small low known =
    let (spent, onward, bound) = chain_spends g.M.UntrustedMemory.state g.W.Watch.state g.L.LeafFn.leaf_of
    g.L.LeafFn.levels config levels costs (write_line_plan c.args.cache.now c.args.line c.line_of.result) limit 1
    c.args.lines.now c.write_line.new.store c.spend.new.self c.write_line.new.self c.requires.ready low far small known
    (ends g c) (record {
      same = c.spend.ensures.same;
      memory = c.spend.ensures.memory;
      tap = c.spend.ensures.tap;
      oram = c.spend.ensures.oram;
      fetches = c.spend.ensures.fetches;
      clock = c.spend.ensures.spent;
    }) in
    (spent, bound)
