-- The shape that the reply to a request has, unless it is an error.
use Rattle.request_queue.specs.declared.asked.Asked.{Asked}
use Rattle.request_queue.specs.declared.asked.Asked.TheVariants as asks
use Rattle.zk_messages.specs.declared.reply.Shape.{Shape}
use Rattle.zk_messages.specs.declared.reply.Shape.TheVariants as shapes

-- the stand-in of a refused request is an exists, whose reply is a Stat
abbrev pub shape_for : Asked → Shape
shape_for (asks.Refused code) = shapes.Stat
shape_for asks.Empty = shapes.Empty
shape_for asks.Close = shapes.Empty
shape_for (asks.Create path sequential) = shapes.Path
shape_for (asks.Create2 path sequential) = shapes.Created2
shape_for (asks.StatOf path) = shapes.Stat
shape_for (asks.Content path) = shapes.Content
shape_for (asks.AclOf path) = shapes.Acls
shape_for (asks.Children path) = shapes.Children
shape_for (asks.Children2 path) = shapes.Children2
shape_for (asks.SyncOf path) = shapes.Path
shape_for (asks.Multi ops) = shapes.Multi
