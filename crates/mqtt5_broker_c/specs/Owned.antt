-- This file serves the logic alone: what a pointer owns that may lead to a value of the heap.
use Rattle.std.specs.Prelude.{Option, Some, None}
use base.Fml.{Fml, ftrue}
use denote.RawPtr.{Ptr}
use Rattle.std_alloc.specs.Box.Ownership.{box_owns}
use Rattle.std_heap.specs.contracts.GlobalAllocator.TheImpl.{ghosts}
use Rattle.mqtt5_broker.specs.contracts.broker.Broker as broker

-- the heap frees the block that the pointer leads to
abbrev pub in_heap : Ptr → broker.the_row.Denot → Fml
in_heap p x =
    box_owns (ghosts.dealloc_token (record { memory = record { seal = tt } })) broker.the_row p x

abbrev pub owned_if_some : Ptr → Option broker.the_row.Denot → Fml
owned_if_some p None = ftrue
owned_if_some p (Some x) = in_heap p x
