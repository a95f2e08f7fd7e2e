use Rattle.law_state.proofs.Orders.{left-stops, orders-left, room-left, uses-go-on, uses-left}
use Rattle.law_state.proofs.commands.orders_may_be_left.Goals as goal

pub returns : goal.returns
returns c = record { stops = left-stops; orders = orders-left; uses = uses-left; go_on = uses-go-on; room = room-left }
