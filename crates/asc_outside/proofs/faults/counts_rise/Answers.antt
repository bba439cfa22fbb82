use Rattle.asc_outside.proofs.RoseLaws.{rose_grown, rose_full, rose_since, rose_until, rose_only}
use Rattle.asc_outside.proofs.faults.counts_rise.Goals as goal

pub returns-clause-grown : goal.returns-clause-grown
returns-clause-grown c = rose_grown

pub returns-clause-full : goal.returns-clause-full
returns-clause-full c = rose_full

pub returns-clause-only : goal.returns-clause-only
returns-clause-only c = rose_only

pub returns-clause-since : goal.returns-clause-since
returns-clause-since c = rose_since

pub returns-clause-until : goal.returns-clause-until
returns-clause-until c = rose_until
