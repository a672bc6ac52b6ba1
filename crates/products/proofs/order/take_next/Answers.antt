-- `order::take_next` reads and counts at a chunk that has a span left, so the chunk is there and its progress is below its end. Assumes nothing.
use Rattle.std.proofs.Common.{◌+◌, arith}
use Rattle.products.proofs.OrderRules.{left_more}
use Rattle.products.proofs.order.take_next.Goals as goal

pub overflow_add-progress : goal.overflow_add-progress
overflow_add-progress c =
    omega (arith, left_more c.args.starts.now c.args.progress.now c.args.chunk c.requires.started c.requires.next (omega (arith, c.type_inv.starts (c.args.chunk + 1))))
