-- What is still to be done in a call on some objects, where messages leave by slot 1 of the lowest, x, and to the user by slot 0 of the top one: as
-- nb_webchains has it of objects whose top one sends the user nothing.
use Rattle.std.proofs.Common.{inl, inr, ◌≡◌, ◌⊎◌, ℕ, Bool, true, false, List, [], ◌∷◌, ◌++◌, Some, None, sym, ap, ◌∙◌}
use Rattle.std.specs.List.{AllByRecursion}
use Rattle.nb_ledger.specs.declared.port.PortState.TheVariants as port
use Rattle.nb_graph.specs.Deeds.{Stage, Shut, MustHear, Holds, Makes, MustMake, MustBegin, MustPlug, Closes, MustShut, Ends, Sends, Gives, Offers, Ticks, Returns, Wants, MustUnplug, Settles, LetsAllGo}
use Rattle.nb_graph.specs.Scene.{Scene, state_at}
use Rattle.nb_graph.specs.Whole.{port_at}
use Rattle.nb_nodes.specs.declared.load.Load.{Load}
use Rattle.nb_nodes.specs.declared.obj.Obj.{Obj}
use Rattle.nb_webchains.proofs.Downward.{IsShortBy, NoneOpens}

-- WHAT IS TO BE DONE

module _ (top x : ℕ) where
  -- nothing leaves by it at once, but from the top one to the user, and x isn't entered from outside
  abbrev pub CalmStage : Scene → Stage Obj Load → Type 0
  CalmStage s (Shut p c) = Unit {0}
  CalmStage s (MustHear p c) = p.obj.0 ≡ x → ⊥
  CalmStage s (Holds p by None) = Unit {0}
  CalmStage s (Holds p by (Some m)) = p.obj.0 ≡ x → ⊥
  CalmStage s (Makes p n) = ⊥
  CalmStage s (MustMake y n) = ⊥
  CalmStage s (MustBegin y n) = ⊥
  CalmStage s (MustPlug p q) = ⊥
  CalmStage s (Closes p c) = Unit {0}
  CalmStage s (MustShut p c) = Unit {0}
  CalmStage s (Ends after c) = ⊥
  CalmStage s (Sends p m) = state_at s p ≡ port.Open → p ≡ port_at top 0
  CalmStage s (Gives p m) = p.obj.0 ≡ x → p.slot ≡ 0
  CalmStage s (Offers p m) = (p.slot ≡ 0) × (p.obj.0 ≡ x → ⊥)
  CalmStage s (Ticks y) = ⊥
  CalmStage s (Returns y l) = Unit {0}
  CalmStage s (Wants e) = ⊥
  CalmStage s (MustUnplug p q) = Unit {0}
  CalmStage s (Settles y) = Unit {0}
  CalmStage s LetsAllGo = ⊥

  abbrev pub AllCalm : Scene → List (Stage Obj Load) → Type 0
  AllCalm s gs = AllByRecursion (CalmStage s) gs

  -- a message leaves by slot 1 of x, or what was lent comes back
  abbrev pub OwnDown : Stage Obj Load → Type 0
  OwnDown (Shut p c) = ⊥
  OwnDown (MustHear p c) = ⊥
  OwnDown (Holds p by o) = ⊥
  OwnDown (Makes p n) = ⊥
  OwnDown (MustMake y n) = ⊥
  OwnDown (MustBegin y n) = ⊥
  OwnDown (MustPlug p q) = ⊥
  OwnDown (Closes p c) = ⊥
  OwnDown (MustShut p c) = ⊥
  OwnDown (Ends after c) = ⊥
  OwnDown (Sends p m) = p ≡ port_at x 1
  OwnDown (Gives p m) = ⊥
  OwnDown (Offers p m) = ⊥
  OwnDown (Ticks y) = ⊥
  OwnDown (Returns y l) = Unit {0}
  OwnDown (Wants e) = ⊥
  OwnDown (MustUnplug p q) = ⊥
  OwnDown (Settles y) = ⊥
  OwnDown LetsAllGo = ⊥

  -- x was entered, and its node is called next
  abbrev pub EagerStage : Stage Obj Load → Type 0
  EagerStage (Shut p c) = ⊥
  EagerStage (MustHear p c) = p.obj.0 ≡ x
  EagerStage (Holds p by None) = ⊥
  EagerStage (Holds p by (Some m)) = (p.obj.0 ≡ x) × IsShortBy by m
  EagerStage (Makes p n) = ⊥
  EagerStage (MustMake y n) = ⊥
  EagerStage (MustBegin y n) = ⊥
  EagerStage (MustPlug p q) = ⊥
  EagerStage (Closes p c) = ⊥
  EagerStage (MustShut p c) = ⊥
  EagerStage (Ends after c) = ⊥
  EagerStage (Sends p m) = ⊥
  EagerStage (Gives p m) = ⊥
  EagerStage (Offers p m) = ⊥
  EagerStage (Ticks y) = ⊥
  EagerStage (Returns y l) = ⊥
  EagerStage (Wants e) = ⊥
  EagerStage (MustUnplug p q) = ⊥
  EagerStage (Settles y) = ⊥
  EagerStage LetsAllGo = ⊥

  abbrev pub DownsFirst : Scene → List (Stage Obj Load) → Type 0
  DownsFirst s [] = Unit {0}
  DownsFirst s (g ∷ gs) = (OwnDown g × DownsFirst s gs) ⊎ AllCalm s (g ∷ gs)

  abbrev pub EagerFirst : Scene → List (Stage Obj Load) → Type 0
  EagerFirst s [] = ⊥
  EagerFirst s (g ∷ gs) = EagerStage g × AllCalm s gs

  -- Directly after an entry of x what it sends may stand first, or the call of its node; else all is calm.
  abbrev pub Fits : Bool → Scene → List (Stage Obj Load) → Type 0
  Fits false s gs = AllCalm s gs
  Fits true s gs = DownsFirst s gs ⊎ EagerFirst s gs

  pub calm_downs : (s : Scene) (gs : List (Stage Obj Load)) → AllCalm s gs → DownsFirst s gs
  calm_downs s [] h = tt
  calm_downs s (g ∷ gs) h = inr h

  pub calm_fits : (b : Bool) (s : Scene) (gs : List (Stage Obj Load)) → AllCalm s gs → Fits b s gs
  calm_fits true s gs h = inl (calm_downs s gs h)
  calm_fits false s gs h = h

  -- what is neither is calm
  pub fits_calm : (b : Bool) (s : Scene) (g : Stage Obj Load) (gs : List (Stage Obj Load)) → (OwnDown g → ⊥) → (EagerStage g → ⊥) → Fits b s (g ∷ gs) → AllCalm s (g ∷ gs)
  fits_calm false s g gs apart none h = h
  fits_calm true s g gs apart none (inl (inl d)) = absurd (apart d.0)
  fits_calm true s g gs apart none (inl (inr h)) = h
  fits_calm true s g gs apart none (inr e) = absurd (none e.0)

  calm_later : (s t : Scene) → NoneOpens s t → (g : Stage Obj Load) → CalmStage s g → CalmStage t g
  calm_later s t o (Shut p c) h = h
  calm_later s t o (MustHear p c) h = h
  calm_later s t o (Holds p by None) h = h
  calm_later s t o (Holds p by (Some m)) h = h
  calm_later s t o (Makes p n) h = h
  calm_later s t o (MustMake y n) h = h
  calm_later s t o (MustBegin y n) h = h
  calm_later s t o (MustPlug p q) h = h
  calm_later s t o (Closes p c) h = h
  calm_later s t o (MustShut p c) h = h
  calm_later s t o (Ends after c) h = h
  calm_later s t o (Sends p m) h = λ e. h (o.opened p.obj.0 p.slot e)
  calm_later s t o (Gives p m) h = h
  calm_later s t o (Offers p m) h = h
  calm_later s t o (Ticks y) h = h
  calm_later s t o (Returns y l) h = h
  calm_later s t o (Wants e) h = h
  calm_later s t o (MustUnplug p q) h = h
  calm_later s t o (Settles y) h = h
  calm_later s t o LetsAllGo h = h

  pub all_calm_later : (s t : Scene) → NoneOpens s t → (gs : List (Stage Obj Load)) → AllCalm s gs → AllCalm t gs
  all_calm_later s t o [] h = tt
  all_calm_later s t o (g ∷ gs) h = (calm_later s t o g h.0, all_calm_later s t o gs h.1)

  -- where slot 1 of x isn't open nothing leaves
  own_calm : (s : Scene) → (s.port x 1 ≡ port.Open → ⊥) → (g : Stage Obj Load) → OwnDown g → CalmStage s g
  own_calm s shut (Shut p c) h = absurd h
  own_calm s shut (MustHear p c) h = absurd h
  own_calm s shut (Holds p by o) h = absurd h
  own_calm s shut (Makes p n) h = absurd h
  own_calm s shut (MustMake y n) h = absurd h
  own_calm s shut (MustBegin y n) h = absurd h
  own_calm s shut (MustPlug p q) h = absurd h
  own_calm s shut (Closes p c) h = absurd h
  own_calm s shut (MustShut p c) h = absurd h
  own_calm s shut (Ends after c) h = absurd h
  own_calm s shut (Sends p m) h = λ o. absurd (shut (ap (state_at s) (sym h) ∙ o))
  own_calm s shut (Gives p m) h = absurd h
  own_calm s shut (Offers p m) h = absurd h
  own_calm s shut (Ticks y) h = absurd h
  own_calm s shut (Returns y l) h = tt
  own_calm s shut (Wants e) h = absurd h
  own_calm s shut (MustUnplug p q) h = absurd h
  own_calm s shut (Settles y) h = absurd h
  own_calm s shut LetsAllGo h = absurd h

  pub shut_downs : (s : Scene) → (s.port x 1 ≡ port.Open → ⊥) → (gs : List (Stage Obj Load)) → DownsFirst s gs → AllCalm s gs
  shut_downs s shut [] h = tt
  shut_downs s shut (g ∷ gs) (inl d) = (own_calm s shut g d.0, shut_downs s shut gs d.1)
  shut_downs s shut (g ∷ gs) (inr h) = h

  pub downs_append : (s : Scene) (gs hs : List (Stage Obj Load)) → AllByRecursion OwnDown gs → AllCalm s hs → DownsFirst s (gs ++ hs)
  downs_append s [] hs own h = calm_downs s hs h
  downs_append s (g ∷ gs) hs own h = inl (own.0, downs_append s gs hs own.1 h)
