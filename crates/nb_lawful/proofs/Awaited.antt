-- The command's open is the last of those that live: what comes to them all, or to one of them, leaves it waiting, or ends it, and its end
-- is then the last in the step.
use Rattle.std.proofs.Common.{◌≡◌, ◌⊎◌, inl, inr, ℕ, ◌+◌, ◌==◌, ◌&&◌, Bool, true, false, cond, List, [], ◌∷◌, ◌++◌, length, Option, Some, None, refl, sym, ◌∙◌, ap, subst, append_assoc, append-nil, add-zero, arith, fold, ne_eqb}
use Rattle.std.specs.Prelude.{find}
use Rattle.std.specs.List.{flat_map, AllByRecursion}
use Rattle.std.proofs.lemmas.Bool.{eqb-false}
use Rattle.std.proofs.lemmas.List.{map-append, length-append}
use Rattle.nb_terms.specs.declared.cause.Cause.{Cause}
use Rattle.nb_defs.specs.Causes.{is_ok_cause}
use Rattle.nb_defs.specs.Records.{Out, step, sent, tried, advanced, ended}
use Rattle.nb_stack.specs.Client.{Client}
use Rattle.nb_streams.proofs.FlowLaws.{all_append}
use Rattle.nb_machine.specs.Lives.{OpenInput, Exchange, exchange, Live, continued}
use Rattle.nb_machine.specs.Transfers.{end_records}
use Rattle.nb_machine.specs.Takings.{end_among, Over, AllTake, all_have, lives_on, is_over}
use Rattle.nb_machine.specs.Scripts.{is_number}
use Rattle.nb_laws.specs.Events.{Event, puts}
use Rattle.nb_laws.specs.Lists.{openings, made, opens_by}
use Rattle.nb_laws.specs.Moves.{moved_by_server, moves_by, moves}
use Rattle.nb_laws.proofs.Tellings.{told, made_more, same_number}
use Rattle.nb_laws.proofs.HandOffs.{IsOpens, AreOpens}
use Rattle.nb_laws.proofs.Moved.{moves_more}
use Rattle.nb_openlaws.proofs.Puts.{PutsSo, puts_so, over_is}
use Rattle.nb_laws.specs.CommandOpens.{CommandOpen, command_open_by, command_open, end_of}
use Rattle.nb_laws.proofs.DriveEvents.{end_stays, end_given, end_other}
use Rattle.nb_lawful.specs.ScriptAgreement.{IsAnother, IsNoTask, AreUnasked}
use Rattle.nb_lawful.proofs.Quiet.{told_command_open}

-- the command's open, as far as it has come
abbrev pub its : ℕ → Option Cause → Option CommandOpen
its k over = Some (record { number = k; over = over })

-- RECORDS BESIDE IT

-- a FRAME, a TRY or an ADVANCE, or the end of another open
unfoldable pub IsBeside : ℕ → Out → Type 0
IsBeside k (sent bytes) = Unit {0}
IsBeside k (tried number count) = Unit {0}
IsBeside k (advanced number place) = Unit {0}
IsBeside k (ended number cause) = (number == k) ≡ false
IsBeside k (step number) = ⊥
IsBeside k _ = ⊥

abbrev pub AreBeside : ℕ → List Out → Type 0
AreBeside k outs = AllByRecursion (IsBeside k) outs

opens_one : (k : ℕ) (o : Out) → IsOpens o → IsBeside k o
unfolding IsOpens IsBeside
opens_one k (sent bytes) h = tt
opens_one k (tried number count) h = tt
opens_one k (advanced number place) h = tt
opens_one k _ h = absurd h

pub opens_beside : (k : ℕ) (outs : List Out) → AreOpens outs → AreBeside k outs
opens_beside k [] h = tt
opens_beside k (o ∷ outs) h = (opens_one k o h.0, opens_beside k outs h.1)

end_beside : (j k : ℕ) (over : Option Cause) → (j == k) ≡ false → AreBeside k (end_records j over)
unfolding IsBeside
end_beside j k None other = tt
end_beside j k (Some cause) other = (other, tt)

-- what another open puts, or this one that goes on
other_put : (j k : ℕ) (x : Exchange) → PutsSo j x → (j == k) ≡ false → AreBeside k x.put
other_put j k x p other = subst (AreBeside k) (sym p.put_is) (all_append (IsBeside k) p.front (end_records j p.over) (opens_beside k p.front p.opens) (end_beside j k p.over other))

own_put : (k : ℕ) (x : Exchange) → PutsSo k x → end_among k x.put ≡ None → AreBeside k x.put
own_put k x p none =
    subst (AreBeside k) (sym (p.put_is ∙ ap (λ z. p.front ++ end_records k z) (over_is k x None p none) ∙ append-nil p.front)) (opens_beside k p.front p.opens)

-- and what it puts where it ends
own_last : (k : ℕ) (x : Exchange) (cause : Cause) (p : PutsSo k x) → end_among k x.put ≡ Some cause → x.put ≡ p.front ++ ended k cause ∷ []
own_last k x cause p some = p.put_is ∙ ap (λ z. p.front ++ end_records k z) (over_is k x (Some cause) p some)

-- they leave it as it was
beside_one : (k : ℕ) (mine : Option Cause) (o : Out) → IsBeside k o → command_open_by (its k mine) (puts o) ≡ its k mine
unfolding IsBeside
beside_one k mine (sent bytes) h = refl
beside_one k mine (tried number count) h = refl
beside_one k mine (advanced number place) h = refl
beside_one k mine (ended number cause) h = ap (λ b. Some (cond b (record { number = k; over = Some cause }) (record { number = k; over = mine }))) h
beside_one k mine _ h = absurd h

beside_all : (k : ℕ) (mine : Option Cause) (outs : List Out) → AreBeside k outs → fold command_open_by (its k mine) (told outs) ≡ its k mine
beside_all k mine [] h = refl
beside_all k mine (o ∷ outs) h = ap (λ z. fold command_open_by z (told outs)) (beside_one k mine o h.0) ∙ beside_all k mine outs h.1

pub beside_open : (es : List Event) (k : ℕ) (mine : Option Cause) (outs : List Out) → AreBeside k outs → command_open es ≡ its k mine → command_open (es ++ told outs) ≡ its k mine
beside_open es k mine outs h is = told_command_open es outs ∙ ap (λ z. fold command_open_by z (told outs)) is ∙ beside_all k mine outs h

pub own_end : (k : ℕ) (cause : Cause) → command_open_by (its k None) (puts (ended k cause)) ≡ its k (Some cause)
own_end k cause = ap (λ b. Some (cond b (record { number = k; over = Some cause }) (record { number = k; over = None }))) (same_number k)

-- nor is the command's file moved
and_false : (b : Bool) → (b && false) ≡ false
and_false true = refl
and_false false = refl

beside_makes : (k : ℕ) (o : Out) → IsBeside k o → opens_by (puts o) ≡ 0
unfolding IsBeside
beside_makes k (sent bytes) h = refl
beside_makes k (tried number count) h = refl
beside_makes k (advanced number place) h = refl
beside_makes k (ended number cause) h = refl
beside_makes k _ h = absurd h

beside_move : (es : List Event) (k : ℕ) (o : Out) → made es ≡ k + 1 → IsBeside k o → moves_by es (moves es) (puts o) ≡ moves es
unfolding IsBeside
beside_move es k (sent bytes) is h = refl
beside_move es k (tried number count) is h = refl
beside_move es k (advanced number place) is h = refl
beside_move es k (ended number cause) is h =
    let not_last : (number + 1 == made es) ≡ false = ne_eqb (number + 1) (made es) (λ same. eqb-false number k h (omega (arith, same, is))) in
    ap (λ b. cond b (moves es ++ flat_map (moved_by_server number es) (openings number es)) (moves es)) (ap (λ b. is_ok_cause cause && b) not_last ∙ and_false (is_ok_cause cause))
beside_move es k _ is h = absurd h

pub beside_moves : (es : List Event) (k : ℕ) (outs : List Out) → made es ≡ k + 1 → AreBeside k outs → (made (es ++ told outs) ≡ k + 1) × (moves (es ++ told outs) ≡ moves es)
beside_moves es k [] is h = (ap made (append-nil es) ∙ is, ap moves (append-nil es))
beside_moves es k (o ∷ outs) is h =
    let at = sym (append_assoc es (puts o ∷ []) (told outs)) in
    let r = beside_moves (es ++ puts o ∷ []) k outs (made_more es (puts o) ∙ ap (λ n. made es + n) (beside_makes k o h.0) ∙ add-zero (made es) ∙ is) h.1 in
    (ap made at ∙ r.0, ap moves at ∙ r.1 ∙ moves_more es (puts o) ∙ beside_move es k o is h.0)

-- its own end moves it, where it ends well and its server has moved it
pub own_moves : (es : List Event) (k : ℕ) (cause : Cause) → made es ≡ k + 1 →
    moves (es ++ puts (ended k cause) ∷ []) ≡ cond (is_ok_cause cause) (moves es ++ flat_map (moved_by_server k es) (openings k es)) (moves es)
own_moves es k cause is =
    moves_more es (puts (ended k cause))
    ∙ ap (λ b. cond (is_ok_cause cause && b) (moves es ++ flat_map (moved_by_server k es) (openings k es)) (moves es)) (ap (λ n. k + 1 == n) is ∙ same_number (k + 1))
    ∙ by (is_ok_cause cause)
  where
    by : (b : Bool) → cond (b && true) (moves es ++ flat_map (moved_by_server k es) (openings k es)) (moves es) ≡ cond b (moves es ++ flat_map (moved_by_server k es) (openings k es)) (moves es)
    by true = refl
    by false = refl

-- OTHERS TAKE

pub record OthersTook (k : ℕ) (put : List Out) (after : List Live) (over : List Over) : Type 0 where
  pub none : find (is_number k) over ≡ None
  pub others : AllByRecursion (IsAnother k) after
  pub beside : AreBeside k put

pub others_took : (devices : List Client) (input : OpenInput) (ls : List Live) (put : List Out) (after : List Live) (over : List Over) → AllTake devices input ls put after over → (k : ℕ) → AllByRecursion (IsAnother k) ls → OthersTook k put after over
others_took devices input ls put after over all_have k h = record { none = refl; others = tt; beside = tt }
others_took devices input ls0 put0 after0 over0 (lives_on l ls after link put more over got keeps none rest) k h =
    let x = exchange input link put in
    let r = others_took devices input ls more after over rest k h.1 in
    record { none = r.none; others = (h.0, r.others); beside = all_append (IsBeside k) put more (other_put l.number k x (puts_so l x keeps) h.0) r.beside }
others_took devices input ls0 put0 after0 over0 (is_over l ls after link put more over cause got keeps some rest) k h =
    let x = exchange input link put in
    let r = others_took devices input ls more after over rest k h.1 in
    record {
      none = ap (λ b. cond b (Some (record { live = continued l x; cause = cause })) (find (is_number k) over)) h.0 ∙ r.none;
      others = r.others;
      beside = all_append (IsBeside k) put more (other_put l.number k x (puts_so l x keeps) h.0) r.beside;
    }

-- THE LAST ONE TAKES

-- the same open, with these exchanges
abbrev pub with_exchanges : Live → List Exchange → Live
with_exchanges l xs = record l { exchanges = xs }

-- it has had more exchanges, by which nothing was asked of it
abbrev pub Grows : Live → List Exchange → Type 0
Grows l xs = (more : List Exchange) × (xs ≡ l.exchanges ++ more) × AreUnasked more

-- What the last open, which is the command's, has come to: it lives on, still the last, or has ended, and its end is put last. Nothing is asked of
-- it then.
pub data Took (k : ℕ) (l : Live) (put : List Out) (after : List Live) (over : List Over) : Type 0 where
  took_on : (earlier : List Live) (xs : List Exchange) → after ≡ earlier ++ with_exchanges l xs ∷ [] → AllByRecursion (IsAnother k) earlier → find (is_number k) over ≡ None →
      AreBeside k put → Grows l xs → Took k l put after over
  took_last : (x : Exchange) (cause : Cause) (front : List Out) → find (is_number k) over ≡ Some (record { live = continued l x; cause = cause }) → put ≡ front ++ ended k cause ∷ [] →
      AreBeside k front → IsNoTask x.came → Took k l put after over

-- of one of those that live, likewise
pub data TookAmid (k : ℕ) (l : Live) (put : List Out) (after : List Live) (over : List Over) : Type 0 where
  amid_on : (earlier later : List Live) (xs : List Exchange) → after ≡ earlier ++ with_exchanges l xs ∷ later → AllByRecursion (IsAnother k) earlier → AllByRecursion (IsAnother k) later → find (is_number k) over ≡ None →
      AreBeside k put → TookAmid k l put after over
  amid_last : (x : Exchange) (cause : Cause) (front behind : List Out) → find (is_number k) over ≡ Some (record { live = continued l x; cause = cause }) → put ≡ front ++ ended k cause ∷ behind →
      AreBeside k front → AreBeside k behind → TookAmid k l put after over

pub no_snoc : {A : Type 0} (xs : List A) (x : A) → [] ≡ xs ++ x ∷ [] → ⊥
no_snoc xs x e = omega (arith, ap length e, length-append xs (x ∷ []))

pub snoc_both : {A : Type 0} (xs ys : List A) (x y : A) → xs ++ x ∷ [] ≡ ys ++ y ∷ [] → (xs ≡ ys) × (x ≡ y)
snoc_both [] [] x y e = (refl, cc)
snoc_both [] (b ∷ ys) x y e = absurd (omega (arith, ap length e, length-append ys (y ∷ [])))
snoc_both (a ∷ xs) [] x y e = absurd (omega (arith, ap length e, length-append xs (x ∷ [])))
snoc_both (a ∷ xs) (b ∷ ys) x y e =
    let h : a ≡ b = cc in
    let t : xs ++ x ∷ [] ≡ ys ++ y ∷ [] = cc in
    let k = snoc_both xs ys x y t in
    let front : xs ≡ ys = k.0 in
    (cc, k.1)

-- a list is empty, or has a last element
pub last_view : {A : Type 0} (xs : List A) → (xs ≡ []) ⊎ ((front : List A) × (z : A) × (xs ≡ front ++ z ∷ []))
last_view [] = inl refl
last_view {A = A} (x ∷ xs) = by (last_view xs)
  where
    by : (xs ≡ []) ⊎ ((front : List A) × (z : A) × (xs ≡ front ++ z ∷ [])) → (x ∷ xs ≡ []) ⊎ ((front : List A) × (z : A) × (x ∷ xs ≡ front ++ z ∷ []))
    by (inl e) = inr ([], x, ap (λ ys. x ∷ ys) e)
    by (inr (front, z, e)) = inr (x ∷ front, z, ap (λ ys. x ∷ ys) e)

nothing_took : (devices : List Client) (input : OpenInput) (ls : List Live) (put : List Out) (after : List Live) (over : List Over) → AllTake devices input ls put after over → ls ≡ [] → (put ≡ []) × (after ≡ []) × (over ≡ [])
nothing_took devices input ls put after over all_have e = (refl, refl, refl)
nothing_took devices input ls0 put0 after0 over0 (lives_on l ls after link put more over got keeps none rest) e = absurd (cc)
nothing_took devices input ls0 put0 after0 over0 (is_over l ls after link put more over cause got keeps some rest) e = absurd (cc)

pub told_later : (es : List Event) (put more : List Out) → es ++ told (put ++ more) ≡ (es ++ told put) ++ told more
told_later es put more = ap (λ z. es ++ z) (map-append puts put more) ∙ sym (append_assoc es (told put) (told more))

pub took : (devices : List Client) (input : OpenInput) (ls : List Live) (put : List Out) (after : List Live) (over : List Over) → AllTake devices input ls put after over → IsNoTask input →
    (earlier : List Live) (l : Live) → ls ≡ earlier ++ l ∷ [] → AllByRecursion (IsAnother l.number) earlier → Took l.number l put after over
took devices input ls put after over all_have untask earlier l e h = absurd (no_snoc earlier l e)
took devices input ls0 put0 after0 over0 (lives_on l1 ls after link put more over got keeps none rest) untask [] l e h =
    let same : l1 ≡ l = cc in
    let nil : ls ≡ [] = cc in
    let n = nothing_took devices input ls more after over rest nil in
    let x = exchange input link put in
    subst (λ z. Took z.number z (put ++ more) (continued l1 x ∷ after) over) same
    (took_on [] (l1.exchanges ++ x ∷ []) (ap (λ z. continued l1 x ∷ z) n.1) tt (ap (find (is_number l1.number)) n.2)
    (subst (AreBeside l1.number) (sym (ap (λ z. put ++ z) n.0 ∙ append-nil put)) (own_put l1.number x (puts_so l1 x keeps) none)) (x ∷ [], refl, (untask, tt)))
took devices input ls0 put0 after0 over0 (lives_on l1 ls after link put more over got keeps none rest) untask (y ∷ earlier) l e h =
    let same : l1 ≡ y = cc in
    let rest_is : ls ≡ earlier ++ l ∷ [] = cc in
    let x = exchange input link put in
    let other : (l1.number == l.number) ≡ false = ap (λ (z : Live). z.number == l.number) same ∙ h.0 in
    by l.number other (other_put l1.number l.number x (puts_so l1 x keeps) other) (took devices input ls more after over rest untask earlier l rest_is h.1)
  where
    by : (k : ℕ) → (l1.number == k) ≡ false → AreBeside k put → Took k l more after over → Took k l (put ++ more) (continued l1 (exchange input link put) ∷ after) over
    by k other aside (took_on front xs is all missing beside plain) =
        took_on (continued l1 (exchange input link put) ∷ front) xs (ap (λ z. continued l1 (exchange input link put) ∷ z) is) (other, all) missing (all_append (IsBeside k) put more aside beside) plain
    by k other aside (took_last x cause front some is beside plain) =
        took_last x cause (put ++ front) some (ap (λ z. put ++ z) is ∙ sym (append_assoc put front (ended k cause ∷ []))) (all_append (IsBeside k) put front aside beside) plain
took devices input ls0 put0 after0 over0 (is_over l1 ls after link put more over cause got keeps some rest) untask [] l e h =
    let same : l1 ≡ l = cc in
    let nil : ls ≡ [] = cc in
    let n = nothing_took devices input ls more after over rest nil in
    let x = exchange input link put in
    let k = l1.number in
    let p = puts_so l1 x keeps in
    subst (λ z. Took z.number z (put ++ more) after (record { live = continued l1 x; cause = cause } ∷ over)) same
    (took_last x cause p.front (ap (λ b. cond b (Some (record { live = continued l1 x; cause = cause })) (find (is_number k) over)) (same_number k))
    (ap (λ z. put ++ z) n.0 ∙ append-nil put ∙ own_last k x cause p some) (opens_beside k p.front p.opens) untask)
took devices input ls0 put0 after0 over0 (is_over l1 ls after link put more over cause got keeps some rest) untask (y ∷ earlier) l e h =
    let same : l1 ≡ y = cc in
    let rest_is : ls ≡ earlier ++ l ∷ [] = cc in
    let x = exchange input link put in
    let other : (l1.number == l.number) ≡ false = ap (λ (z : Live). z.number == l.number) same ∙ h.0 in
    by l.number other (other_put l1.number l.number x (puts_so l1 x keeps) other) (took devices input ls more after over rest untask earlier l rest_is h.1)
  where
    found : Over
    found = record { live = continued l1 (exchange input link put); cause = cause }

    by : (k : ℕ) → (l1.number == k) ≡ false → AreBeside k put → Took k l more after over → Took k l (put ++ more) after (found ∷ over)
    by k other aside (took_on front xs is all missing beside plain) =
        took_on front xs is all (ap (λ b. cond b (Some found) (find (is_number k) over)) other ∙ missing) (all_append (IsBeside k) put more aside beside) plain
    by k other aside (took_last x c front some2 is beside plain) =
        took_last x c (put ++ front) (ap (λ b. cond b (Some found) (find (is_number k) over)) other ∙ some2) (ap (λ z. put ++ z) is ∙ sym (append_assoc put front (ended k c ∷ []))) (all_append (IsBeside k) put front aside beside) plain

-- ONE OF THEM TAKES

amid : (k : ℕ) (devices : List Client) (input : OpenInput) (ls : List Live) (put : List Out) (after : List Live) (over : List Over) → AllTake devices input ls put after over →
    (earlier later : List Live) (l : Live) → ls ≡ earlier ++ l ∷ later → l.number ≡ k → AllByRecursion (IsAnother k) earlier → AllByRecursion (IsAnother k) later → TookAmid k l put after over
amid k devices input ls put after over all_have earlier later l e number h t = absurd (no_middle earlier l later e)
  where
    no_middle : {A : Type 0} (xs : List A) (x : A) (ys : List A) → [] ≡ xs ++ x ∷ ys → ⊥
    no_middle [] x ys e = absurd cc
    no_middle (y ∷ xs) x ys e = absurd cc
amid k devices input ls0 put0 after0 over0 (lives_on l1 ls after link put more over got keeps none rest) [] later l e number h t =
    let same : l1 ≡ l = cc in
    let rest_is : ls ≡ later = cc in
    let here : l1.number ≡ k = ap (λ (z : Live). z.number) same ∙ number in
    let x = exchange input link put in
    let r = others_took devices input ls more after over rest k (subst (AllByRecursion (IsAnother k)) (sym rest_is) t) in
    subst (λ z. TookAmid k z (put ++ more) (continued l1 x ∷ after) over) same
    (amid_on [] after (l1.exchanges ++ x ∷ []) refl tt r.others r.none (all_append (IsBeside k) put more (subst (λ j. AreBeside j put) here (own_put l1.number x (puts_so l1 x keeps) none)) r.beside))
amid k devices input ls0 put0 after0 over0 (lives_on l1 ls after link put more over got keeps none rest) (y ∷ earlier) later l e number h t =
    let same : l1 ≡ y = cc in
    let rest_is : ls ≡ earlier ++ l ∷ later = cc in
    let x = exchange input link put in
    let other : (l1.number == k) ≡ false = ap (λ (z : Live). z.number == k) same ∙ h.0 in
    by other (other_put l1.number k x (puts_so l1 x keeps) other) (amid k devices input ls more after over rest earlier later l rest_is number h.1 t)
  where
    by : (l1.number == k) ≡ false → AreBeside k put → TookAmid k l more after over → TookAmid k l (put ++ more) (continued l1 (exchange input link put) ∷ after) over
    by other aside (amid_on front back xs is all rear missing beside) =
        amid_on (continued l1 (exchange input link put) ∷ front) back xs (ap (λ z. continued l1 (exchange input link put) ∷ z) is) (other, all) rear missing (all_append (IsBeside k) put more aside beside)
    by other aside (amid_last x cause front behind some is beside rear) =
        amid_last x cause (put ++ front) behind some (ap (λ z. put ++ z) is ∙ sym (append_assoc put front (ended k cause ∷ behind))) (all_append (IsBeside k) put front aside beside) rear
amid k devices input ls0 put0 after0 over0 (is_over l1 ls after link put more over cause got keeps some rest) [] later l e number h t =
    let same : l1 ≡ l = cc in
    let rest_is : ls ≡ later = cc in
    let here : l1.number ≡ k = ap (λ (z : Live). z.number) same ∙ number in
    let x = exchange input link put in
    let p = puts_so l1 x keeps in
    let r = others_took devices input ls more after over rest k (subst (AllByRecursion (IsAnother k)) (sym rest_is) t) in
    subst (λ z. TookAmid k z (put ++ more) after (record { live = continued l1 x; cause = cause } ∷ over)) same
    (amid_last x cause p.front more (ap (λ b. cond b (Some (record { live = continued l1 x; cause = cause })) (find (is_number k) over)) (ap (λ j. j == k) here ∙ same_number k))
    (ap (λ z. z ++ more) (own_last l1.number x cause p some ∙ ap (λ j. p.front ++ ended j cause ∷ []) here) ∙ append_assoc p.front (ended k cause ∷ []) more)
    (subst (λ j. AreBeside j p.front) here (opens_beside l1.number p.front p.opens)) r.beside)
amid k devices input ls0 put0 after0 over0 (is_over l1 ls after link put more over cause got keeps some rest) (y ∷ earlier) later l e number h t =
    let same : l1 ≡ y = cc in
    let rest_is : ls ≡ earlier ++ l ∷ later = cc in
    let x = exchange input link put in
    let other : (l1.number == k) ≡ false = ap (λ (z : Live). z.number == k) same ∙ h.0 in
    by other (other_put l1.number k x (puts_so l1 x keeps) other) (amid k devices input ls more after over rest earlier later l rest_is number h.1 t)
  where
    found : Over
    found = record { live = continued l1 (exchange input link put); cause = cause }

    by : (l1.number == k) ≡ false → AreBeside k put → TookAmid k l more after over → TookAmid k l (put ++ more) after (found ∷ over)
    by other aside (amid_on front back xs is all rear missing beside) =
        amid_on front back xs is all rear (ap (λ b. cond b (Some found) (find (is_number k) over)) other ∙ missing) (all_append (IsBeside k) put more aside beside)
    by other aside (amid_last x c front behind some2 is beside rear) =
        amid_last x c (put ++ front) behind (ap (λ b. cond b (Some found) (find (is_number k) over)) other ∙ some2) (ap (λ z. put ++ z) is ∙ sym (append_assoc put front (ended k c ∷ behind))) (all_append (IsBeside k) put front aside beside) rear

pub took_amid : (devices : List Client) (input : OpenInput) (ls : List Live) (put : List Out) (after : List Live) (over : List Over) → AllTake devices input ls put after over →
    (earlier later : List Live) (l : Live) → ls ≡ earlier ++ l ∷ later → AllByRecursion (IsAnother l.number) earlier → AllByRecursion (IsAnother l.number) later → TookAmid l.number l put after over
took_amid devices input ls put after over all earlier later l e h t = amid l.number devices input ls put after over all earlier later l e refl h t

-- ONE ALONE TAKES

-- it lives on, or it has ended
pub data TookAlone (input : OpenInput) (l : Live) (put : List Out) (after : List Live) (over : List Over) : Type 0 where
  alone_on : (x : Exchange) → x.came ≡ input → after ≡ continued l x ∷ [] → over ≡ [] → AreBeside l.number put → TookAlone input l put after over
  alone_last : (x : Exchange) (cause : Cause) (front : List Out) → x.came ≡ input → after ≡ [] → over ≡ record { live = continued l x; cause = cause } ∷ [] → put ≡ front ++ ended l.number cause ∷ [] →
      AreBeside l.number front → TookAlone input l put after over

alone : (devices : List Client) (input : OpenInput) (ls : List Live) (put : List Out) (after : List Live) (over : List Over) → AllTake devices input ls put after over → (l : Live) → ls ≡ l ∷ [] → TookAlone input l put after over
alone devices input ls put after over all_have l e = absurd cc
alone devices input ls0 put0 after0 over0 (lives_on l1 ls after link put more over got keeps none rest) l e =
    let same : l1 ≡ l = cc in
    let nil : ls ≡ [] = cc in
    let n = nothing_took devices input ls more after over rest nil in
    let x = exchange input link put in
    subst (λ z. TookAlone input z (put ++ more) (continued l1 x ∷ after) over) same
    (alone_on x refl (ap (λ z. continued l1 x ∷ z) n.1) n.2 (subst (AreBeside l1.number) (sym (ap (λ z. put ++ z) n.0 ∙ append-nil put)) (own_put l1.number x (puts_so l1 x keeps) none)))
alone devices input ls0 put0 after0 over0 (is_over l1 ls after link put more over cause got keeps some rest) l e =
    let same : l1 ≡ l = cc in
    let nil : ls ≡ [] = cc in
    let n = nothing_took devices input ls more after over rest nil in
    let x = exchange input link put in
    let p = puts_so l1 x keeps in
    let last : Over = record { live = continued l1 x; cause = cause } in
    subst (λ z. TookAlone input z (put ++ more) after (record { live = continued l1 x; cause = cause } ∷ over)) same
    (alone_last x cause p.front refl n.1 (ap (λ z. last ∷ z) n.2) (ap (λ z. put ++ z) n.0 ∙ append-nil put ∙ own_last l1.number x cause p some) (opens_beside l1.number p.front p.opens))

pub took_alone : (devices : List Client) (input : OpenInput) (l : Live) (put : List Out) (after : List Live) (over : List Over) → AllTake devices input (l ∷ []) put after over → TookAlone input l put after over
took_alone devices input l put after over all = alone devices input (l ∷ []) put after over all l refl

-- HOW IT HAS ENDED

beside_end : (k : ℕ) (es : List Event) (o : Out) → IsBeside k o → end_of k (es ++ puts o ∷ []) ≡ end_of k es
unfolding IsBeside
beside_end k es (sent bytes) h = end_stays k es (sent bytes) tt
beside_end k es (tried number count) h = end_stays k es (tried number count) tt
beside_end k es (advanced number place) h = end_stays k es (advanced number place) tt
beside_end k es (ended number cause) h = end_other k es number cause h
beside_end k es _ h = absurd h

pub beside_ends : (k : ℕ) (outs : List Out) (es : List Event) → AreBeside k outs → end_of k (es ++ told outs) ≡ end_of k es
beside_ends k [] es h = ap (end_of k) (append-nil es)
beside_ends k (o ∷ outs) es h = ap (end_of k) (sym (append_assoc es (puts o ∷ []) (told outs))) ∙ beside_ends k outs (es ++ puts o ∷ []) h.1 ∙ beside_end k es o h.0

-- before records beside it
pub own_end_of : (es : List Event) (k : ℕ) (cause : Cause) (behind : List Out) → AreBeside k behind → end_of k (es ++ told (ended k cause ∷ behind)) ≡ Some cause
own_end_of es k cause behind rear =
    ap (end_of k) (sym (append_assoc es (puts (ended k cause) ∷ []) (told behind))) ∙ beside_ends k behind (es ++ puts (ended k cause) ∷ []) rear ∙ end_given k es k cause (same_number k)
