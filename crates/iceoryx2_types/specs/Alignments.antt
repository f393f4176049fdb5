-- That the stated alignments of types are powers of two, which the tests find by counting bits.
use Rattle.std.specs.Prelude.{◌≡◌, true, refl}
use Rattle.std.specs.Int.{is_power_of_two}
use Rattle.std.specs.Int.Count.{ones}

pub one : is_power_of_two 1 ≡ true
unfolding ones
one = refl

pub two : is_power_of_two 2 ≡ true
unfolding ones
two = refl

pub four : is_power_of_two 4 ≡ true
unfolding ones
four = refl

pub eight : is_power_of_two 8 ≡ true
unfolding ones
eight = refl

pub sixteen : is_power_of_two 16 ≡ true
unfolding ones
sixteen = refl
