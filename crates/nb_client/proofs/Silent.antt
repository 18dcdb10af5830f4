-- What a command waits for hasn't come already, where its open has just begun or was just asked.
use Rattle.std.proofs.Common.{◌≡◌, ℕ, ◌+◌, ◌<◌, ◌==◌, ◌||◌, Bool, true, false, cond, List, [], ◌∷◌, ◌++◌, Option, Some, None, refl, sym, ◌∙◌, ap, arith, eq-eqb}
use Rattle.std.specs.Prelude.{find}
use Rattle.std.specs.List.{AllByRecursion, list_any}
use Rattle.std.specs.Option.{is_some, option_and_then}
use Rattle.std.proofs.lemmas.Bool.{eqb-true}
use Rattle.nb_graph.specs.Whole.{Objects}
use Rattle.nb_nodes.specs.declared.obj.Obj.{Obj}
use Rattle.nb_machine.specs.Kinds.{answered, read_last}
use Rattle.nb_machine.specs.Lives.{Live}
use Rattle.nb_machine.specs.Scripts.{has_number}
use Rattle.nb_network.specs.Many.{AreOpensOf, AreRising, Many}
use Rattle.nb_network.specs.declared.living.Living.{Living as Open}
use Rattle.nb_network.proofs.HookedOpens.{found_answered, found_read}
use Rattle.nb_client.specs.Beginnings.{OpensOwn}
use Rattle.nb_client.specs.Soundness.{IsDriveAnswered}
use Rattle.nb_client.specs.declared.asked.Asked.{Asked}
use Rattle.nb_client.specs.declared.asked.Asked.TheVariants.{File, Query as Exchange, Disk, Block}
use Rattle.nb_client.proofs.DriveKinds.{has_none, other_number}
use Rattle.nb_client.proofs.Unasked.{fresh}

-- the opens say it, whatever state they are
answered_same : (k : ℕ) (g : Objects Obj) (os : List Open) (ls ls' : List Live) → AreOpensOf g os ls → AreOpensOf g os ls' →
    is_some (option_and_then answered (find (has_number k) ls)) ≡ is_some (option_and_then answered (find (has_number k) ls'))
answered_same k g os ls ls' are are' = sym (found_answered k g os ls are) ∙ found_answered k g os ls' are'

read_same : (k : ℕ) (g : Objects Obj) (os : List Open) (ls ls' : List Live) → AreOpensOf g os ls → AreOpensOf g os ls' → option_and_then read_last (find (has_number k) ls) ≡ option_and_then read_last (find (has_number k) ls')
read_same k g os ls ls' are are' = sym (found_read k g os ls are) ∙ found_read k g os ls' are'

-- ONE THAT HAS JUST BEGUN

-- none of those before has its number
above_none : (g : Objects Obj) (os : List Open) (ls : List Live) (least most : ℕ) → AreOpensOf g os ls → AreRising least most os → has_none most ls
above_none g [] [] least most are rising = refl
above_none g [] (l ∷ ls) least most are rising = absurd are
above_none g (o ∷ os) [] least most are rising = absurd are
above_none g (o ∷ os) (l ∷ ls) least most are rising =
    let same : l.number ≡ o.speaker.number = are.0.called.number in
    rw (other_number l.number most (omega (arith, same, rising.1))) (above_none g os ls (o.speaker.number + 1) most are.1 rising.2)

last_found : (k : ℕ) (ls : List Live) (l : Live) → has_none k ls → l.number ≡ k → find (has_number k) (ls ++ l ∷ []) ≡ Some l
last_found k [] l none same = ap (λ b. cond b (Some l) None) (eq-eqb l.number k same)
last_found k (x ∷ ls) l none same = by (x.number == k) (λ rest. last_found k ls l rest same) none
  where
    by : (b : Bool) → (has_none k ls → find (has_number k) (ls ++ l ∷ []) ≡ Some l) → (b || list_any (has_number k) ls) ≡ false → cond b (Some x) (find (has_number k) (ls ++ l ∷ [])) ≡ Some l
    by true rest some = absurd (let no : true ≡ false = some in cc)
    by false rest some = rest some

pub silent_begun : (a : Asked) → OpensOwn a → (m m' : Many) (k : ℕ) (l : Live) (live : List Live) → AreOpensOf m.graph m.list live → AreRising 0 k m.list → l.number ≡ k → l.exchanges ≡ [] →
    AreOpensOf m'.graph m'.list (live ++ l ∷ []) → IsDriveAnswered a k m' false
silent_begun (File w) own m m' k l live are rising number none now = refl
silent_begun (Exchange q) own m m' k l live are rising number none now = refl
silent_begun (Disk d) own m m' k l live are rising number none now = λ ls here.
    let found = last_found k live l (above_none m.graph m.list live 0 k are rising) number in
    let silent : is_some (option_and_then answered (find (has_number k) (live ++ l ∷ []))) ≡ false = ap (λ o. is_some (option_and_then answered o)) found ∙ ap is_some (fresh l none) in
    sym (answered_same k m'.graph m'.list ls (live ++ l ∷ []) here now ∙ silent)
silent_begun (Block d) own m m' k l live are rising number none now = absurd own

-- ONE THAT WAS JUST ASKED

none_read : (k : ℕ) (ls : List Live) → AllByRecursion (λ l. read_last l ≡ None) ls → option_and_then read_last (find (has_number k) ls) ≡ None
none_read k [] h = refl
none_read k (l ∷ ls) h = by (l.number == k) (none_read k ls h.1)
  where
    by : (b : Bool) → option_and_then read_last (find (has_number k) ls) ≡ None → option_and_then read_last (cond b (Some l) (find (has_number k) ls)) ≡ None
    by true rest = h.0
    by false rest = rest

pub silent_asked : (m : Many) (k : ℕ) (live : List Live) → AreOpensOf m.graph m.list live → AllByRecursion (λ l. read_last l ≡ None) live → (ls : List Live) → AreOpensOf m.graph m.list ls → false ≡ is_some (option_and_then read_last (find (has_number k) ls))
silent_asked m k live are unread ls here = sym (ap is_some (read_same k m.graph m.list ls live here are ∙ none_read k live unread))
