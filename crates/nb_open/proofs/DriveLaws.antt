-- What each call on a drive does, by the laws of drives.
use Rattle.nb_drivetalks.specs.Calls.{DriveBeginsCome, DriveClosesCome, DriveSegmentsCome, StayAsTheyWere, DriveTasksCome, DriveTimesCome}
use Rattle.nb_drivetalks.specs.Orders.{CloseInOrder, StandInOrderEach}
use Rattle.nb_drivetalks.proofs.Called.{begins, close_orders, closes, orders, segments, tasks, times}
use Rattle.nb_drivetalks.proofs.Staying.{same_drive}

pub drive_begins : DriveBeginsCome
drive_begins = begins

pub drive_segments : DriveSegmentsCome
drive_segments = segments

pub drive_times : DriveTimesCome
drive_times = times

pub drive_tasks : DriveTasksCome
drive_tasks = tasks

pub drive_closes : DriveClosesCome
drive_closes = closes

pub drives_still : StayAsTheyWere
drives_still = same_drive

-- and in which order what is told of it stands
pub drive_orders : StandInOrderEach
drive_orders = orders

pub drive_closing_orders : CloseInOrder
drive_closing_orders = close_orders
