-- Demand 2 on the wire: the claim of specs/ReadBack.antt. Assumes nothing.
use Rattle.shdlc.specs.ReadBack.{ReadBack}
use Rattle.shdlc.proofs.Stream.{unbroken_stuff, wire_items, one_wire}

pub read_back : ReadBack
read_back = record { stuffed_unbroken = unbroken_stuff; wire_items = wire_items; one_wire = one_wire }
