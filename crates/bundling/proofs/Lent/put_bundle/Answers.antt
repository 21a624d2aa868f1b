-- `bundling::Lent::put_bundle` meets its contract: four pieces, one after another. Assumes nothing.
use Rattle.bundling.proofs.Writing as laws
use Rattle.bundling.proofs.Lent.put_bundle.Goals as goal

pub returns : goal.returns
returns c =
    rw (c.put_messages.ensures, c.put_ends.ensures, c.put_u32-2.ensures, c.put_u32.ensures, c.header_len-header.ensures, c.count.ensures, c.count-2.ensures)
    (laws.whole_bundle c.args.self.now c.args.out.now c.requires.1)
