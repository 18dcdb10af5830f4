-- RFC 9293, section 3.10.7.4: what is held of a segment
use Rattle.std.specs.Prelude.{◌≡◌, ◌≤◌, ℕ, ◌+◌, List, Option, Some, None}
use Rattle.std.specs.Option.{option_or}
use Rattle.nb_reasm.specs.declared.held.Held.{Held}
use Rattle.nb_reasm.specs.HeldWindows.{window}
use Rattle.nb_reasm.specs.Windows.{HeldWindow, window_byte, NextIsLeast}
use Rattle.nb_streams.specs.Segments.{Incoming}
use Rattle.nb_tcp.specs.declared.variables.Variables.{Variables}
use Rattle.nb_tcp.specs.Numbers.{with_stop, with_next, piece_place, piece_bytes, kept_bytes}

-- the window holds these bytes from a place on beside what it held
pub record PutInto (old : HeldWindow) (place : ℕ) (bytes : List ℕ) (new : HeldWindow) : Type 0 where
  pub base : new.base ≡ old.base
  pub size : new.size ≡ old.size
  pub at : (p : ℕ) → new.at p ≡ option_or (old.at p) (window_byte old place bytes p)
  pub least : NextIsLeast new

-- it holds what of the segment counts, and the variables have the end and the next place
pub record HoldsSegment (v : Variables) (s : Incoming) (old new : Held) (after : Variables) : Type 0 where
  pub put : PutInto (window old) (piece_place v s) (kept_bytes (with_stop v s) (piece_place v s) (piece_bytes v s)) (window new)
  pub after_is : after ≡ with_next (with_stop v s) (window new).next

-- while the window is lent nothing is received
abbrev pub Receives : Variables → Incoming → Option Held → Option Held → Variables → Type 0
Receives v s None new after = (new ≡ None) × (after ≡ v)
Receives v s (Some old) None after = ⊥
Receives v s (Some old) (Some new) after = HoldsSegment v s old new after

-- what a window is once all of its front was passed over
pub record PassesOver (old new : HeldWindow) : Type 0 where
  pub base : new.base ≡ old.next
  pub next : new.next ≡ old.next
  pub size : new.size ≡ old.size
  pub at : (p : ℕ) → new.base ≤ p → new.at p ≡ old.at p

-- the window goes on at this place, and holds none from it on
pub record IsBareAt (w : HeldWindow) (place : ℕ) : Type 0 where
  pub next : w.next ≡ place
  pub none : (p : ℕ) → w.next ≤ p → w.at p ≡ None

-- what a window that holds nothing is so many places on
pub record WindowMovesOn (old : HeldWindow) (count : ℕ) (new : HeldWindow) : Type 0 where
  pub base : new.base ≡ old.base + count
  pub next : new.next ≡ old.next + count
  pub size : new.size ≡ old.size
  pub none : (p : ℕ) → new.at p ≡ None
