-- Lists: of visits, of numbers, and of views.
pub mod Lists
-- What a step of one seat leaves as it is of the others.
pub mod Family
-- The cells as they begin, splitting and joining passes, and the end.
pub mod PassSteps
-- Drawing a ticket, looking whether it is served, and passing the turn on.
pub mod TicketSteps
-- A whole turn at a cell.
pub mod WholeTurn
-- Which passes and cells may go to another thread.
pub mod Crossing
