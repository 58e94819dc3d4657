pub mod LaterNight
