-- What a command gets of its open: of a disk what its drive answers, of anything else its end.
use Rattle.std.proofs.Common.{◌≡◌, ℕ, ◌+◌, ◌<◌, ◌==◌, Bool, true, false, cond, List, [], ◌∷◌, Option, Some, None, refl, sym, ◌∙◌, ap, subst, arith, eq-eqb}
use Rattle.std.specs.Prelude.{find, filter, option_map}
use Rattle.std.specs.List.{AllByRecursion}
use Rattle.std.specs.Option.{is_some, option_and_then, option_or}
use Rattle.std.proofs.lemmas.Bool.{eqb-true}
use Rattle.nb_defs.specs.Records.{In}
use Rattle.nb_graph.specs.Whole.{Objects}
use Rattle.nb_nodes.specs.declared.obj.Obj.{Obj}
use Rattle.nb_drivecmd.specs.declared.drive.Drive.{Drive}
use Rattle.nb_drivecmd.specs.declared.outcome.AfterHook.{AfterHook}
use Rattle.nb_drivecmd.specs.declared.outcome.AfterHook.TheVariants as after_hook
use Rattle.nb_machine.specs.Drives.{DriveAnswer, last_read}
use Rattle.nb_machine.specs.Kinds.{answered, answered_by, is_connection, read_last}
use Rattle.nb_machine.specs.Lives.{OpenKind, tftp, http, iscsi, dns, dhcp, ping, Live}
use Rattle.nb_machine.specs.Scripts.{Answer, answer_in, answer_of_live, answer_of_over, awaited_hook, block_of_live, block_of_over, by_drive, by_end, has_number, is_number}
use Rattle.nb_machine.specs.States.{State}
use Rattle.nb_machine.specs.Takings.{Over}
use Rattle.nb_stack.specs.Client.{Client}
use Rattle.nb_open.specs.declared.objects.OpenObjects.{OpenObjects}
use Rattle.nb_open.specs.declared.objects.OpenObjects.TheVariants as objects
use Rattle.nb_network.specs.declared.living.Living.{Living as Open}
use Rattle.nb_open.specs.Open.{AreOfKind}
use Rattle.nb_network.specs.Many.{AreOpensOf, AreRising, AreSound, AreUntied, HasNoneTied, HasTiedOnlyOf, IsUntied, IsUntiedBut, Many}
use Rattle.nb_network.specs.Takes.{AnswersBy, IsEndOf, awaited_over}
use Rattle.nb_network.specs.declared.over.HasEnded.{HasEnded}
use Rattle.nb_network.proofs.Sound.{some_live}
use Rattle.nb_client.specs.Asked.{awaited_asked}
use Rattle.nb_client.specs.Serving.{IsAnswerBy, IsAnswerOf, answer_over, disk_over}
use Rattle.nb_client.specs.Soundness.{HasRoomIf, IsDriveAnswered}
use Rattle.nb_client.specs.declared.asked.Asked.{Asked}
use Rattle.nb_client.specs.declared.asked.Asked.TheVariants.{File, Query as Exchange, Disk, Block}
use Rattle.nb_client.specs.declared.pending.Answer.{Answer as TheAnswer}
use Rattle.nb_client.specs.declared.pending.Answer.TheVariants.{End, Drive as Lives}
use Rattle.nb_client.specs.declared.pending.Pending.{Pending}
use Rattle.nb_client.proofs.DriveLists.{room_kept}

-- what was found passes
pub find_passes : {A : Type 0} (f : A → Bool) (xs : List A) (x : A) → find f xs ≡ Some x → f x ≡ true
find_passes f [] x e = absurd (let no : None ≡ Some x = e in cc)
find_passes {A} f (y ∷ ys) x e = by (f y) refl (λ same. find_passes f ys x same) e
  where
    by : (b : Bool) → f y ≡ b → (find f ys ≡ Some x → f x ≡ true) → cond b (Some y) (find f ys) ≡ Some x → f x ≡ true
    by true is rest same = let here : y ≡ x = cc in subst (λ z. f z ≡ true) here is
    by false is rest same = rest same

-- WHAT IS ANSWERED

drive_none : (o : Option Live) → false ≡ is_some (option_and_then answered o) → option_and_then answer_of_live o ≡ None
drive_none None e = refl
drive_none (Some l) e = ap (λ b. cond b (Some (by_drive l)) None) (sym e)

drive_some : (o : Option Live) → true ≡ is_some (option_and_then answered o) → (l : Live) × (o ≡ Some l) × (option_and_then answer_of_live o ≡ Some (by_drive l))
drive_some None e = absurd (let no : true ≡ false = e in cc)
drive_some (Some l) e = (l, refl, ap (λ b. cond b (Some (by_drive l)) None) (sym e))

block_none : (o : Option Live) → false ≡ is_some (option_and_then read_last o) → option_and_then block_of_live o ≡ None
block_none None e = refl
block_none (Some l) e = ap (λ b. cond b (Some (by_drive l)) None) (sym e)

block_some : (o : Option Live) → true ≡ is_some (option_and_then read_last o) → (l : Live) × (o ≡ Some l) × (option_and_then block_of_live o ≡ Some (by_drive l))
block_some None e = absurd (let no : true ≡ false = e in cc)
block_some (Some l) e = (l, refl, ap (λ b. cond b (Some (by_drive l)) None) (sym e))

-- of what has ended, or else of what lives
abbrev either_one : (Over → Answer) → (Live → Option Answer) → ℕ → State → Option Over → Option Answer
either_one f g k s o = option_or (option_map f o) (option_and_then g (find (has_number k) s.live))

none_disk : (after : AfterHook) (k : ℕ) (s : State) (r : In) (overs : List Over) → find (is_number k) overs ≡ None → false ≡ is_some (option_and_then answered (find (has_number k) s.live)) → answer_in s r overs (awaited_hook after k) ≡ None
none_disk after_hook.Keep k s r overs none silent = ap (either_one answer_of_over answer_of_live k s) none ∙ drive_none (find (has_number k) s.live) silent
none_disk (after_hook.Boot keep) k s r overs none silent = ap (either_one by_end answer_of_live k s) none ∙ drive_none (find (has_number k) s.live) silent

-- nothing has come yet
pub none_asked : (a : Asked) (k : ℕ) (m : Many) (s : State) (r : In) (overs : List Over) → find (is_number k) overs ≡ None → AreOpensOf m.graph m.list s.live → IsDriveAnswered a k m false →
    answer_in s r overs (awaited_asked a k) ≡ None
none_asked (File w) k m s r overs none are silent = ap (option_map by_end) none
none_asked (Exchange q) k m s r overs none are silent = ap (option_map by_end) none
none_asked (Disk d) k m s r overs none are silent = none_disk d.hooking.after k s r overs none (silent s.live are)
none_asked (Block d) k m s r overs none are silent = ap (either_one block_of_over block_of_live k s) none ∙ block_none (find (has_number k) s.live) (silent s.live are)

end_disk : (after : AfterHook) (k : ℕ) (s : State) (r : In) (overs : List Over) (o : Over) → find (is_number k) overs ≡ Some o → answer_in s r overs (awaited_hook after k) ≡ Some (disk_over after o)
end_disk after_hook.Keep k s r overs o some = ap (either_one answer_of_over answer_of_live k s) some
end_disk (after_hook.Boot keep) k s r overs o some = ap (either_one by_end answer_of_live k s) some

-- the open has ended
end_asked : (a : Asked) (k : ℕ) (s : State) (r : In) (overs : List Over) (o : Over) → find (is_number k) overs ≡ Some o → answer_in s r overs (awaited_asked a k) ≡ Some (answer_over a o)
end_asked (File w) k s r overs o some = ap (option_map by_end) some
end_asked (Exchange q) k s r overs o some = ap (option_map by_end) some
end_asked (Disk d) k s r overs o some = end_disk d.hooking.after k s r overs o some
end_asked (Block d) k s r overs o some = ap (either_one block_of_over block_of_live k s) some

lives_disk : (after : AfterHook) (k : ℕ) (s : State) (r : In) (overs : List Over) (l : Live) → find (is_number k) overs ≡ None → option_and_then answer_of_live (find (has_number k) s.live) ≡ Some (by_drive l) → answer_in s r overs (awaited_hook after k) ≡ Some (by_drive l)
lives_disk after_hook.Keep k s r overs l none some = ap (either_one answer_of_over answer_of_live k s) none ∙ some
lives_disk (after_hook.Boot keep) k s r overs l none some = ap (either_one by_end answer_of_live k s) none ∙ some

-- the drive has answered, or read its block, and lives on
lives_asked : (a : Asked) (k : ℕ) (m : Many) (s : State) (r : In) (overs : List Over) → find (is_number k) overs ≡ None → AreOpensOf m.graph m.list s.live → IsDriveAnswered a k m true →
    (x : Answer) × IsAnswerOf Lives a k s.live x × (answer_in s r overs (awaited_asked a k) ≡ Some x)
lives_asked (File w) k m s r overs none are spoke = absurd (let no : true ≡ false = spoke in cc)
lives_asked (Exchange q) k m s r overs none are spoke = absurd (let no : true ≡ false = spoke in cc)
lives_asked (Disk d) k m s r overs none are spoke =
    let f = drive_some (find (has_number k) s.live) (spoke s.live are) in
    (by_drive f.0, (f.0, f.1, refl), lives_disk d.hooking.after k s r overs f.0 none f.2)
lives_asked (Block d) k m s r overs none are spoke =
    let f = block_some (find (has_number k) s.live) (spoke s.live are) in
    (by_drive f.0, (f.0, f.1, refl), ap (either_one block_of_over block_of_live k s) none ∙ f.2)

none_there : (o : Option Over) → AnswersBy None o → o ≡ None
none_there None a = refl
none_there (Some o) a = absurd a

some_there : (e : HasEnded) (o : Option Over) → AnswersBy (Some e) o → (x : Over) × (o ≡ Some x) × IsEndOf e x
some_there e None a = absurd a
some_there e (Some o) a = (o, refl, a)

pub same_end : (x : TheAnswer) (e : HasEnded) → Some x ≡ Some (End e) → x ≡ End e
same_end x e is = cc

-- what the code's command gets, the machine's gets
pub found_answer : (p : Pending) (ended : Option HasEnded) (x : TheAnswer) (m : Many) (s : State) (r : In) (overs : List Over) → AnswersBy ended (awaited_over (Some p.number) overs) → AreOpensOf m.graph m.list s.live →
    IsAnswerBy p ended m (Some x) → (a : Answer) × IsAnswerOf x p.asked p.number s.live a × (answer_in s r overs (awaited_asked p.asked p.number) ≡ Some a)
found_answer p (Some e) x m s r overs ans are is =
    let f = some_there e (find (is_number p.number) overs) ans in
    subst (λ (y : TheAnswer). (a : Answer) × IsAnswerOf y p.asked p.number s.live a × (answer_in s r overs (awaited_asked p.asked p.number) ≡ Some a)) (sym (same_end x e is))
    (answer_over p.asked f.0, (f.0, f.2, eqb-true f.0.live.number p.number (find_passes (is_number p.number) overs f.0 f.1), refl), end_asked p.asked p.number s r overs f.0 f.1)
found_answer p None (End e) m s r overs ans are is = absurd is
found_answer p None Lives m s r overs ans are is = lives_asked p.asked p.number m s r overs (none_there (find (is_number p.number) overs) ans) are is

-- NONE IS TIED

joined : (k : OpenKind) (l : Live) → true ≡ is_some (answered_by k l) → is_connection k ≡ true
joined tftp l e = absurd (let no : true ≡ false = e in cc)
joined (http isn) l e = refl
joined (iscsi isn i) l e = refl
joined (dns id) l e = absurd (let no : true ≡ false = e in cc)
joined (dhcp a) l e = absurd (let no : true ≡ false = e in cc)
joined ping l e = absurd (let no : true ≡ false = e in cc)

joined_untied : (os : OpenObjects) (l : Live) → is_connection l.kind ≡ true → AreOfKind os l → AreUntied os
joined_untied (objects.Chain kind chain) l e is = absurd (let no : true ≡ false = sym e ∙ is.0 in cc)
joined_untied (objects.Web port own chain) l e is = tt
joined_untied (objects.Drive port own chain) l e is = tt

-- numbers above this are others
others_untied : (k least most : ℕ) (os : List Open) → k < least → AreRising least most os → AllByRecursion (IsUntiedBut k) os → AllByRecursion IsUntied os
others_untied k least most [] less rising h = tt
others_untied k least most (o ∷ os) less rising h =
    (h.0 (λ same. omega (arith, same, less, rising.0)), others_untied k (o.speaker.number + 1) most os (omega (arith, less, rising.0)) rising.2 h.1)

answered_untied : (k least most : ℕ) (g : Objects Obj) (os : List Open) (ls : List Live) → AreOpensOf g os ls → AreRising least most os → true ≡ is_some (option_and_then answered (find (has_number k) ls)) →
    AllByRecursion (IsUntiedBut k) os → AllByRecursion IsUntied os
answered_untied k least most g [] ls are rising e h = tt
answered_untied k least most g (o ∷ os) [] are rising e h = absurd are
answered_untied k least most g (o ∷ os) (l ∷ ls) are rising e h = by (l.number == k) refl (λ is. answered_untied k (o.speaker.number + 1) most g os ls are.1 rising.2 is h.1) e
  where
    by : (b : Bool) → (l.number == k) ≡ b → (true ≡ is_some (option_and_then answered (find (has_number k) ls)) → AllByRecursion IsUntied os) →
        true ≡ is_some (option_and_then answered (cond b (Some l) (find (has_number k) ls))) → AllByRecursion IsUntied (o ∷ os)
    by true same rest is =
        let number : o.speaker.number ≡ k = sym are.0.called.number ∙ eqb-true l.number k same in
        (joined_untied o.objects l (joined l.kind l is) are.0.called.kind, others_untied k (o.speaker.number + 1) most os (omega (arith, number)) rising.2 h.1)
    by false same rest is =
        let other : o.speaker.number ≡ k → ⊥ = λ at. let no : (l.number == k) ≡ true = eq-eqb l.number k (are.0.called.number ∙ at) in let two : true ≡ false = sym no ∙ same in cc in
        (h.0 other, rest is)

-- one that has read has answered
read_answered : (o : Option Live) → true ≡ is_some (option_and_then read_last o) → true ≡ is_some (option_and_then answered o)
read_answered None e = absurd (let no : true ≡ false = e in cc)
read_answered (Some l) e = by (answered l) e
  where
    by : (a : Option DriveAnswer) → true ≡ is_some (option_and_then last_read a) → true ≡ is_some a
    by None is = absurd (let no : true ≡ false = is in cc)
    by (Some x) is = refl

-- a drive that has answered is tied to nothing, and so none is
pub lives_untied : (a : Asked) (k w opens : ℕ) (net : Client) (m : Many) → AreSound w opens net m → IsDriveAnswered a k m true → HasTiedOnlyOf (Some k) m → HasNoneTied m
lives_untied (File x) k w opens net m sound spoke h = absurd (let no : true ≡ false = spoke in cc)
lives_untied (Exchange q) k w opens net m sound spoke h = absurd (let no : true ≡ false = spoke in cc)
lives_untied (Disk d) k w opens net m sound spoke h =
    let lives = some_live m.graph m.list sound.lives in
    answered_untied k 0 opens m.graph m.list lives.0 lives.1 sound.rising (spoke lives.0 lives.1) h
lives_untied (Block d) k w opens net m sound spoke h =
    let lives = some_live m.graph m.list sound.lives in
    answered_untied k 0 opens m.graph m.list lives.0 lives.1 sound.rising (read_answered (find (has_number k) lives.0) (spoke lives.0 lives.1)) h

-- WHAT A COMMAND MAY STILL HOOK

pub room_if_kept : (b : Bool) (f : Drive → Bool) (ds : List Drive) → HasRoomIf b ds → HasRoomIf b (filter f ds)
room_if_kept true f ds h = room_kept f ds h
room_if_kept false f ds h = tt
