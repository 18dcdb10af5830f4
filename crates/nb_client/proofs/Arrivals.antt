-- A record that comes to no open ends none, and all stay as they are.
use Rattle.std.proofs.Common.{◌≡◌, ℕ, ◌+◌, Bool, true, false, ◌||◌, List, [], ◌∷◌, ◌++◌, Some, refl, sym, ◌∙◌, ap, subst}
use Rattle.std.specs.Prelude.{map, slice_get}
use Rattle.std.specs.List.{list_any}
use Rattle.nb_defs.specs.Records.{In, frame, tick, Out}
use Rattle.nb_stack.specs.Brings.{Brings, Brought, datagram, echo_reply, segment}
use Rattle.nb_stack.specs.Client.{Client}
use Rattle.nb_stack.proofs.MessageLaws.{message_one}
use Rattle.nb_machine.specs.Kinds.{is_for, is_reply_for, is_segment_for}
use Rattle.nb_machine.specs.Lives.{Live, OpenInput, time}
use Rattle.nb_machine.specs.Network.{Network, brings, brings_reply, brings_segment, is_for_one, on_net0, passes_by, passes_time}
use Rattle.nb_machine.specs.States.{State}
use Rattle.nb_machine.specs.Takings.{AllTake, Over, all_have}
use Rattle.nb_traced.specs.Outputs.{Arrived}
use Rattle.nb_network.specs.Takes.{ArrivesAt, at_all, at_connection, at_echo, at_none, at_port}

any_at : (f : Live → Bool) (xs ys : List Live) (x : Live) → f x ≡ true → list_any f (xs ++ x ∷ ys) ≡ true
any_at f [] ys x is = ap (λ b. b || list_any f ys) is
any_at f (y ∷ xs) ys x is = or_true (f y) (list_any f (xs ++ x ∷ ys)) (any_at f xs ys x is)
  where
    or_true : (a b : Bool) → b ≡ true → (a || b) ≡ true
    or_true true b e = refl
    or_true false b e = e

-- no open is there to take it
none_take : {devices : List Client} {came : OpenInput} {put : List Out} {after : List Live} {over : List Over} → AllTake devices came [] put after over → (over ≡ []) × (after ≡ [])
none_take all_have = (refl, refl)

no_live : {A : Type 0} (f : Live → A) (ls : List Live) → map f ls ≡ [] → ls ≡ []
no_live f [] e = refl
no_live f (l ∷ ls) e = absurd (cc)

-- a message that is for one comes to it
not_for : (s : State) (device : ℕ) (link link' : Client) (bytes : List ℕ) (m m' : Brought) → slice_get s.devices device ≡ Some link → slice_get s.devices device ≡ Some link' →
    Brings link.up link.mac link.address bytes m → Brings link'.up link'.mac link'.address bytes m' → is_for_one device m s.live ≡ false → is_for_one device m' s.live ≡ true → ⊥
not_for s device link link' bytes m m' get get' b b' none one =
    let same : link' ≡ link = cc in
    let here = subst (λ (x : Client). Brings x.up x.mac x.address bytes m') same b' in
    let said : m ≡ m' = message_one link.up link.mac link.address bytes m m' b here in
    let both : is_for_one device m' s.live ≡ false = subst (λ x. is_for_one device x s.live ≡ false) said none in
    let never : true ≡ false = sym one ∙ both in cc

-- nothing ends, and all live on
abbrev pub NothingMoves : State → State → List Over → Type 0
NothingMoves s s' overs = (overs ≡ []) × (s'.live ≡ s.live)

by_frame : (s : State) (n : ℕ) (bytes : List ℕ) (link : Client) (m : Brought) (put : List Out) (s' : State) (overs : List Over) → slice_get s.devices 0 ≡ Some link → Brings link.up link.mac link.address bytes m → is_for_one 0 m s.live ≡ false →
    Network s n (frame bytes) put s' overs → NothingMoves s s' overs
by_frame s n bytes link m put s' overs get b none (passes_by _ device _ link' m' on get' b' free) = (refl, refl)
by_frame s n bytes link m put s' overs get b none (brings _ _ _ link' p d before behind after l _ _ (on_net0 _) get' b' live is x y take) =
    absurd (not_for s 0 link link' bytes m (datagram p d) get get' b b' none (subst (λ ls. list_any (is_for 0 p d) ls ≡ true) (sym live) (any_at (is_for 0 p d) before behind l is)))
by_frame s n bytes link m put s' overs get b none (brings_reply _ _ _ link' p e before behind after l _ _ (on_net0 _) get' b' live is x y take) =
    absurd (not_for s 0 link link' bytes m (echo_reply p e) get get' b b' none (subst (λ ls. list_any (is_reply_for 0 p e) ls ≡ true) (sym live) (any_at (is_reply_for 0 p e) before behind l is)))
by_frame s n bytes link m put s' overs get b none (brings_segment _ _ _ link' from p g before behind after l _ _ (on_net0 _) get' b' live is x y take) =
    absurd (not_for s 0 link link' bytes m (segment from p g) get get' b b' none (subst (λ ls. list_any (is_segment_for 0 p g) ls ≡ true) (sym live) (any_at (is_segment_for 0 p g) before behind l is)))

by_tick : (s : State) (n ms : ℕ) (put : List Out) (s' : State) (overs : List Over) → s.live ≡ [] → Network s n (tick ms) put s' overs → NothingMoves s s' overs
by_tick s n ms put s' overs none (passes_time _ after _ _ take) =
    let t = none_take (subst (λ ls. AllTake s.devices (time (s.now + ms)) ls put after overs) none take) in
    (t.0, t.1 ∙ sym none)
by_tick s n ms put s' overs none (passes_by _ device _ link m on get b free) = (refl, refl)
by_tick s n ms put s' overs none (brings _ device _ link p d before behind after l _ _ on get b live is x y take) = elim on [ ]
by_tick s n ms put s' overs none (brings_reply _ device _ link p e before behind after l _ _ on get b live is x y take) = elim on [ ]
by_tick s n ms put s' overs none (brings_segment _ device _ link from p g before behind after l _ _ on get b live is x y take) = elim on [ ]

pub none_moves : (s : State) (n : ℕ) (r : In) (put : List Out) (s' : State) (overs : List Over) (came : List Arrived) → ArrivesAt s n r came → came ≡ [] → Network s n r put s' overs → NothingMoves s s' overs
none_moves s n r put s' overs came (at_none _ _ bytes link m (on_net0 _) get b free) none net = by_frame s n bytes link m put s' overs get b free net
none_moves s n r put s' overs came (at_port _ device bytes link p d before behind l on get b live is front back) none net = absurd (cc)
none_moves s n r put s' overs came (at_echo _ device bytes link p e before behind l on get b live is front back) none net = absurd (cc)
none_moves s n r put s' overs came (at_connection _ device bytes link from p g before behind l on get b live is front back) none net = absurd (cc)
none_moves s n r put s' overs came (at_all ms) none net = by_tick s n ms put s' overs (no_live _ s.live none) net
