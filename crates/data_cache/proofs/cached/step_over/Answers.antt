use Rattle.std.proofs.lemmas.Result.{IfOk-weaker, IfErr-weaker}
use Rattle.rv32_core.specs.StepPlan.{machine_of, step_plan}
use Rattle.data_cache.proofs.CachedLaws.{chain-ends, chain-stops, cache_name-ends, cache_name-stops, store_name-ends}
use Rattle.data_cache.proofs.CachedLaws.{store_name-stops, on-both}
use Rattle.data_cache.proofs.cached.step_over.Goals as goal

pub returns-clause-ok : goal.returns-clause-ok
returns-clause-ok g c = IfOk-weaker _ _ _
    (λ done run. chain-ends g.S.LineStore.step (λ b. b.base) (λ b. b.cache.now) (λ b. b.store.now)
    (λ b. b.cache.ghost_name) (λ b. b.store.ghost_name) (step_plan (machine_of c.args.core.now c.args.files.now))
    c.args.bytes.now c.step.new.bytes (machine_of c.step.new.self c.step.new.files, done) run) c.step.ensures.ok

pub returns-clause-err : goal.returns-clause-err
returns-clause-err g c = IfErr-weaker _ _ _
    (λ stop run. chain-stops g.S.LineStore.step (λ b. b.base) (λ b. b.cache.now) (λ b. b.store.now)
    (λ b. b.cache.ghost_name) (λ b. b.store.ghost_name) (step_plan (machine_of c.args.core.now c.args.files.now))
    c.args.bytes.now c.step.new.bytes stop (machine_of c.step.new.self c.step.new.files) run) c.step.ensures.err

pub returns-clause-same_cache : goal.returns-clause-same_cache
returns-clause-same_cache g c = on-both _ c.step.result
    (IfOk-weaker _ _ _
    (λ done run. cache_name-ends g.S.LineStore.step (λ b. b.base) (λ b. b.cache.now) (λ b. b.store.now)
    (λ b. b.cache.ghost_name) (λ b. b.store.ghost_name) (step_plan (machine_of c.args.core.now c.args.files.now))
    c.args.bytes.now c.step.new.bytes (machine_of c.step.new.self c.step.new.files, done) run) c.step.ensures.ok)
    (IfErr-weaker _ _ _
    (λ stop run. cache_name-stops g.S.LineStore.step (λ b. b.base) (λ b. b.cache.now) (λ b. b.store.now)
    (λ b. b.cache.ghost_name) (λ b. b.store.ghost_name) (step_plan (machine_of c.args.core.now c.args.files.now))
    c.args.bytes.now c.step.new.bytes stop (machine_of c.step.new.self c.step.new.files) run) c.step.ensures.err)

pub returns-clause-same_store : goal.returns-clause-same_store
returns-clause-same_store g c = on-both _ c.step.result
    (IfOk-weaker _ _ _
    (λ done run. store_name-ends g.S.LineStore.step (λ b. b.base) (λ b. b.cache.now) (λ b. b.store.now)
    (λ b. b.cache.ghost_name) (λ b. b.store.ghost_name) (step_plan (machine_of c.args.core.now c.args.files.now))
    c.args.bytes.now c.step.new.bytes (machine_of c.step.new.self c.step.new.files, done) run) c.step.ensures.ok)
    (IfErr-weaker _ _ _
    (λ stop run. store_name-stops g.S.LineStore.step (λ b. b.base) (λ b. b.cache.now) (λ b. b.store.now)
    (λ b. b.cache.ghost_name) (λ b. b.store.ghost_name) (step_plan (machine_of c.args.core.now c.args.files.now))
    c.args.bytes.now c.step.new.bytes stop (machine_of c.step.new.self c.step.new.files) run) c.step.ensures.err)
