-- What a command fetches or asks once its server's address is known: a file, and what its image is to become, an echo, or a disk that
-- is to be hooked.
use Rattle.std.specs.Prelude.{ℕ, List}
use Rattle.nb_imagecmd.specs.declared.asking.Asking.{Asking}
use Rattle.nb_drivecmd.specs.declared.outcome.Hooking.{Hooking}

-- a file that is asked for, of the server that has this address
pub record Wanted : Type 0 where
  pub server : ℕ
  pub asking : Asking

-- what is asked of a server whose address isn't known yet
pub data Errand : Type 0 where
  -- a file of it is fetched
  fetches_then : Asking → Errand
  -- it is asked for an echo
  echoes_then : Errand
  -- a disk of it is hooked
  hooks_then : Hooking → Errand

-- what a command asks next: the same, once it is known; or for the address of the server to which its file was moved
pub data Onward : Type 0 where
  fetches_now : Wanted → Onward
  echoes_now : (server : ℕ) → Onward
  hooks_now : Hooking → (server : ℕ) → Onward
  looks_up_now : Errand → (name : List ℕ) (by : ℕ) → Onward

-- what is asked of the server that has this address
abbrev pub onward : Errand → ℕ → Onward
onward (fetches_then asking) server = fetches_now (record { server = server; asking = asking })
onward echoes_then server = echoes_now server
onward (hooks_then hooking) server = hooks_now hooking server
