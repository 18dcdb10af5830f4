use Rattle.nb_iscsipdu.proofs.KeyLemmas.{value_in-stands, value_in-reads}
use Rattle.nb_iscsipdu.proofs.laws.values_stand_after_their_names.Goals as goal

pub returns : goal.returns
returns c = λ name text value. (value_in-stands name text value, value_in-reads name text value)
