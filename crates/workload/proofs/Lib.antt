-- The workload of up to 200 workers keeps every rule of an image.
pub mod Valid
-- The bytes of one word more; and the parts of the workload, made one by one.
pub mod Making
