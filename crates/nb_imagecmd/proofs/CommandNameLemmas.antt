-- Image commands by their names.
use Rattle.std.proofs.Common.{◌≡◌, Some, refl}
use Rattle.nb_imagecmd.specs.declared.command_names.ImageCommandName.{ImageCommandName}
use Rattle.nb_imagecmd.specs.declared.command_names.ImageCommandName.TheVariants.{Imgfetch, Initrd, Module}
use Rattle.nb_imagecmd.specs.declared.command_names.ImageCommandName.TheVariants.{Imgselect, Kernel, Imgload}
use Rattle.nb_imagecmd.specs.declared.command_names.ImageCommandName.TheVariants.{Imgexec, Chain, Boot}
use Rattle.nb_imagecmd.specs.declared.command_names.ImageCommandName.TheVariants.{Imgargs, Imgfree, Imgstat}
use Rattle.nb_imagecmd.specs.CommandNames.{image_command_text, image_command_named}

-- a command's name names it
pub named-text : (command : ImageCommandName) → image_command_named (image_command_text command) ≡ Some command
unfolding image_command_named
named-text Imgfetch = refl
named-text Initrd = refl
named-text Module = refl
named-text Imgselect = refl
named-text Kernel = refl
named-text Imgload = refl
named-text Imgexec = refl
named-text Chain = refl
named-text Boot = refl
named-text Imgargs = refl
named-text Imgfree = refl
named-text Imgstat = refl
