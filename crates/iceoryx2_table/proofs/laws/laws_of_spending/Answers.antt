use Rattle.iceoryx2_table.proofs.NumbersSpent.{spending_is_locking}
use Rattle.iceoryx2_table.proofs.laws.laws_of_spending.Goals as goal

pub returns : goal.returns
returns g = spending_is_locking
