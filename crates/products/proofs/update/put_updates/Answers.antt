-- `products::update::put_updates` meets its contract. Assumes nothing.
use Rattle.std.proofs.Common.{refl}
use lib.Ieee.{nan}
use Rattle.ground.proofs.ListLaws.{written-list}
use Rattle.products.proofs.LentRules.{lending}
use Rattle.products.proofs.update.put_updates.Goals as goal

pub loop-c-init : goal.loop-c-init
loop-c-init c =
    (search lending, written-list nan _ _ c.args.out.now refl)

pub loop-c-preserved : goal.loop-c-preserved
loop-c-preserved c = search lending
