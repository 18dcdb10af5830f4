-- A drive is asked for its first block once.
use Rattle.std.proofs.Common.{◌≡◌, ℕ, List, [], ◌∷◌, ◌++◌, Option, sym, ◌∙◌, ap, subst}
use Rattle.nb_defs.specs.Records.{Out}
use Rattle.nb_drivecmd.specs.declared.drive.Drive.{Drive}
use Rattle.nb_machine.specs.Drives.{first_block_read}
use Rattle.nb_machine.specs.Lives.{task}
use Rattle.nb_machine.specs.Running.{Running}
use Rattle.nb_machine.specs.States.{State, with_live}
use Rattle.nb_machine.specs.Takings.{Over, AllTake}
use Rattle.nb_machine.specs.Courses.{Standing, AsksBlock, ReadsBlock, block_lost, block_standing}
use Rattle.nb_onecourse.specs.Answers.{AreUnended}
use Rattle.nb_onecourse.proofs.EachRecord.{SameStep, other_unended}
use Rattle.nb_onecourse.proofs.EachTakes.{all_take_one}
use Rattle.nb_onecourse.proofs.Numbered.{IsNumbered, same_place}

-- the same records, the same state and the same opens that ended
asks_one : (s s1 s2 : State) (number : ℕ) (put put' : List Out) (over over' : List Over) → AreUnended s.live → IsNumbered s → AsksBlock s number put s1 over → AsksBlock s number put' s2 over' → SameStep put put' s1 s2 over over'
asks_one s s1 s2 number put put' over over' u r h g =
    let k = same_place number s h.before g.before h.behind g.behind h.l g.l r h.parted g.parted h.its g.its in
    let t = all_take_one s.devices (task first_block_read s.now) (h.l ∷ []) put put' h.after g.after over over' (other_unended h.before h.behind h.l (subst AreUnended h.parted u), tt) h.takes
    (subst (λ z. AllTake s.devices (task first_block_read s.now) (z ∷ []) put' g.after over') (sym k.here) g.takes) in
    record {
      records = t.records;
      state = h.leaves ∙ ap (λ z. with_live s (z ++ h.after ++ h.behind)) k.front ∙ ap (λ z. with_live s (g.before ++ z ++ h.behind)) t.live
          ∙ ap (λ z. with_live s (g.before ++ g.after ++ z)) k.back ∙ sym g.leaves;
      ended = t.ended;
    }

-- the same records, and the same place
pub record SameRead (put put' : List Out) (p p' : Standing) : Type 0 where
  pub records : put ≡ put'
  pub standing : p ≡ p'

pub reads_one : (s : State) (inner : Running) (outer : List Running) (number : ℕ) (d : Option Drive) (put put' : List Out) (p p' : Standing) → AreUnended s.live → IsNumbered s → ReadsBlock s inner outer number d put p → ReadsBlock s inner outer number d put' p' →
    SameRead put put' p p'
reads_one s inner outer number d put put' p p' u r h g =
    let k = asks_one s h.next g.next number h.asked g.asked h.over g.over u r h.asks g.asks in
    record {
      records = h.all ∙ ap (λ z. z ++ block_lost h.over) k.records ∙ ap (λ z. g.asked ++ block_lost z) k.ended ∙ sym g.all;
      standing = h.stands_so ∙ ap (λ z. block_standing z inner outer number d h.over) k.state ∙ ap (block_standing g.next inner outer number d) k.ended ∙ sym g.stands_so;
    }
