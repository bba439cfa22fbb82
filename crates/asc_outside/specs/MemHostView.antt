-- The fields of a host in memory, as contracts see them.
use Rattle.std.specs.Prelude.{map, string_bytes}
use Rattle.asc_outside.specs.Host.{HostCall, Reads, Writes, Prints}
use Rattle.asc_outside.specs.MemHost.{MemHostState}
use Rattle.asc_outside.specs.NamedFiles.{file_pairs}
use Rattle.asc_outside.specs.declared.mem_host.Asked.{Asked}
use Rattle.asc_outside.specs.declared.mem_host.Asked.TheVariants.{Read, Write, Print}
use Rattle.asc_outside.specs.declared.mem_host.MemHost.TheInside.{Inside}

-- the call that is kept
abbrev pub call_of : Asked → HostCall
call_of (Read name) = Reads (string_bytes name)
call_of (Write name) = Writes (string_bytes name)
call_of Print = Prints

-- the host's fields as plain lists
abbrev pub mem_host_view : Inside → MemHostState
mem_host_view host = record {
  files = file_pairs host.files.entries;
  printed = host.printed.items;
  asked = map call_of host.asked.items;
  failing = host.failing.items;
  faults = host.faults;
}
